-- An answer to the layer itself after it opened or closed a connection.
use Rattle.std.proofs.Common.{◌≡◌, ℕ, ◌==◌, true, false, not, ◌&&◌, ◌||◌, List, [], ◌∷◌, Option, Some, None, refl, sym, ap, ◌∙◌, subst}
use Rattle.std.specs.Prelude.{slice_set}
use Rattle.std.proofs.lemmas.List.{set-get_or}
use Rattle.dsql_laws_calls.specs.driver.declared.call.DriverCall.{DriverCall}
use Rattle.dsql_laws_calls.specs.driver.declared.call.DriverCall.TheVariants.{Connect, Shut}
use Rattle.dsql_laws_calls.specs.driver.Kinds.{is_begin, is_connect, is_shut}
use Rattle.dsql_laws_calls.specs.journal.declared.entry.Entry.{Entry}
use Rattle.dsql_laws_calls.specs.journal.Kinds.{is_house, same_owner}
use Rattle.dsql_laws_calls.specs.pool.declared.conn.Place.{Place}
use Rattle.dsql_laws_calls.specs.pool.declared.conn.Place.TheVariants.{Idle, Lent, Opening, Closing}
use Rattle.dsql_laws_calls.specs.pool.Pooled.{Pooled, next_tenure}
use Rattle.dsql_laws_calls.specs.history.declared.work.Work.{Work}
use Rattle.dsql_laws_calls.specs.history.declared.work.Task.TheVariants.{HandOut}
use Rattle.dsql_laws_calls.specs.history.declared.work.Work.TheVariants.{Statement, Fetch}
use Rattle.dsql_laws_calls.specs.works.HandedOut.{Made}
use Rattle.dsql_laws_calls.specs.history.declared.event.Event.{Event}
use Rattle.dsql_laws_calls.specs.history.declared.event.Event.TheVariants.{Heard}
use Rattle.dsql_laws_calls.specs.numbered.Numbered.{Numbered}
use Rattle.dsql_laws_calls.specs.tx.declared.tx.Tx.{Tx}
use Rattle.dsql_laws_calls.specs.history.Readers.HandedOut.{handed_out}
use Rattle.dsql_laws_calls.specs.history.Readers.Transactions.{transactions, tx_heard}
use Rattle.dsql_laws_calls.specs.history.Readers.Owed.{answered}
use Rattle.dsql_laws_calls.specs.history.Readers.Works.{work}
use Rattle.dsql_laws_calls.specs.history.Rules.Moves.{hears_in, is_house_entry}
use Rattle.dsql_laws_calls.specs.history.Legal.{Lawful}
use Rattle.dsql_laws_calls.proofs.laws.Tests.{both, same_number}
use Rattle.dsql_engine_calls.specs.declared.call.CallRow.{CallRow}
use Rattle.dsql_engine_desk.specs.Adding.{opens_or_shuts}
use Rattle.dsql_engine_calls.specs.Calls.{KeepsCalls, nobody, row_at}
use Rattle.dsql_engine_effects.specs.Heard.{is_fetch_or_query, HearsRows, calls_after, calls_told, call_row_after}
use Rattle.dsql_engine_effects.proofs.AsHeard.{rows_as_heard}
use Rattle.dsql_engine_effects.proofs.Beside.{rows_beside, calls_beside}
use Rattle.dsql_engine_desk.proofs.Kept.{heard_keeps}

hears_nothing : (w : Work) (n : ℕ) (q : DriverCall) (made : Made) → opens_or_shuts q ≡ true → HearsRows w n q made
hears_nothing (Statement it (HandOut label)) n Connect made opens = tt
hears_nothing (Statement it (HandOut label)) n Shut made opens = tt
hears_nothing (Fetch k) n Connect made opens = tt
hears_nothing (Fetch k) n Shut made opens = tt
hears_nothing w n Connect made opens = tt
hears_nothing w n Shut made opens = tt
hears_nothing w n q made opens = absurd cc

pub is_no_query : (q : DriverCall) → opens_or_shuts q ≡ true → is_fetch_or_query q ≡ false
is_no_query Connect opens = refl
is_no_query Shut opens = refl
is_no_query q opens = absurd cc

nobody_told : (w : Work) (k : ℕ) (e : Entry) (rows : List CallRow) → e.call_no ≡ 0 → calls_told k w e rows ≡ rows
nobody_told w k e rows house =
    let none : call_row_after k w e (row_at rows e.call_no) ≡ row_at rows e.call_no = rw house refl in
    ap (slice_set rows e.call_no) none ∙ set-get_or rows e.call_no nobody

pub house_keeps : (H : List Event) (e : Entry) (rows : List CallRow) → Lawful H → opens_or_shuts e.call ≡ true → e.call_no ≡ 0 → KeepsCalls H rows → KeepsCalls (Heard e ∷ H) rows
house_keeps H e rows l opens house k =
    let w = work H e.call_no in
    let same : calls_after w e.call_no e.call e.answer (handed_out H) (calls_told 1 w e rows) ≡ rows
    = calls_beside w e.call_no e.call e.answer (handed_out H) (calls_told 1 w e rows) (is_no_query e.call opens) ∙ nobody_told w 1 e rows house in
    subst (λ (rs : List CallRow). KeepsCalls (Heard e ∷ H) rs) same (heard_keeps H e w 1 rows l refl (λ some. absurd (some house)) (hears_nothing w e.call_no e.call (handed_out H) opens) k)

pub house_rows : (H : List Event) (e : Entry) → opens_or_shuts e.call ≡ true → handed_out (Heard e ∷ H) ≡ handed_out H
house_rows H e opens =
    sym (rows_as_heard H (work H e.call_no) e.call_no e.call e.answer (handed_out H)) ∙ rows_beside (transactions H) (work H e.call_no) e.call_no e.call e.answer (handed_out H) (is_no_query e.call opens)

no_begin : (q : DriverCall) → opens_or_shuts q ≡ true → is_begin q ≡ false
no_begin Connect opens = refl
no_begin Shut opens = refl
no_begin q opens = absurd cc

pub house_txs : (e : Entry) (txs : Numbered Tx) → opens_or_shuts e.call ≡ true → tx_heard e txs ≡ txs
house_txs e txs opens = rw (no_begin e.call opens) refl

-- Any other answer is heard on a lent connection and makes no move due.

opens_none : (q : DriverCall) → opens_or_shuts q ≡ false → (is_connect q ≡ false) × (is_shut q ≡ false)
opens_none Connect other = absurd cc
opens_none Shut other = absurd cc
opens_none q other = (refl, refl)

pub lent_owes_none : (e : Entry) (p : Pooled) (at : Option Place) → hears_in p at e ≡ true → opens_or_shuts e.call ≡ false → answered e.answer e.conn p at ≡ []
lent_owes_none e p (Some (Opening wanted)) hears other =
    let b = both (is_connect e.call) ((e.tenure == 1) && is_house_entry e) hears in
    let o = opens_none e.call other in
    absurd (let no : false ≡ true = sym o.0 ∙ b.0 in cc)
lent_owes_none e p (Some Closing) hears other =
    let b = both (is_shut e.call) ((e.tenure == next_tenure p e.conn) && is_house_entry e) hears in
    let o = opens_none e.call other in
    absurd (let no : false ≡ true = sym o.1 ∙ b.0 in cc)
lent_owes_none e p at hears other = refl

-- An answer to an opening or a closing is heard by the layer itself, for no call.

house_number : (e : Entry) → is_house_entry e ≡ true → e.call_no ≡ 0
house_number e house = same_number e.call_no 0 (both (is_house e.owner) (e.call_no == 0) house).1

opens_one : (q : DriverCall) → opens_or_shuts q ≡ true → (is_connect q || is_shut q) ≡ true
opens_one Connect opens = refl
opens_one Shut opens = refl
opens_one q opens = absurd cc

pub opened_for_no_call : (e : Entry) (p : Pooled) (at : Option Place) → hears_in p at e ≡ true → opens_or_shuts e.call ≡ true → e.call_no ≡ 0
opened_for_no_call e p (Some (Opening wanted)) hears opens =
    let rest = both (is_connect e.call) ((e.tenure == 1) && is_house_entry e) hears in
    house_number e (both (e.tenure == 1) (is_house_entry e) rest.1).1
opened_for_no_call e p (Some Closing) hears opens =
    let rest = both (is_shut e.call) ((e.tenure == next_tenure p e.conn) && is_house_entry e) hears in
    house_number e (both (e.tenure == next_tenure p e.conn) (is_house_entry e) rest.1).1
opened_for_no_call e p (Some (Lent tenure owner)) hears opens =
    let lent = (both (not (is_connect e.call || is_shut e.call)) ((e.tenure == tenure) && same_owner e.owner owner) hears).0 in
    absurd (let no : false ≡ true = sym (ap (λ b. not b) (opens_one e.call opens)) ∙ lent in cc)
opened_for_no_call e p (Some Idle) hears opens = absurd cc
opened_for_no_call e p None hears opens = absurd cc
