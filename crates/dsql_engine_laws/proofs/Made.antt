-- The layer's own driver calls may be made wherever they are due, and whatever fits is welcome as their answer.
use Rattle.std.proofs.Common.{◌≡◌, ℕ, ◌==◌, Bool, true, false, not, ◌&&◌, ◌||◌, cond, List, [], ◌∷◌, Option, Some, None, is_some, refl, sym, ap, subst, ◌∙◌}
use Rattle.std.specs.Prelude.{option_map}
use Rattle.std.specs.List.{list_all}
use Rattle.dsql_engine_hearing.specs.driver.declared.call.DriverCall.{DriverCall}
use Rattle.dsql_engine_hearing.specs.driver.declared.call.DriverCall.TheVariants.{Connect, Shut}
use Rattle.dsql_engine_hearing.specs.driver.declared.answer.DriverAnswer.{DriverAnswer}
use Rattle.dsql_engine_hearing.specs.driver.Fits.{fits_of, is_done, is_memory}
use Rattle.dsql_engine_hearing.specs.driver.Kinds.{is_begin, is_connect, is_reset, is_shut, is_valid}
use Rattle.dsql_engine_hearing.specs.journal.declared.entry.Entry.{Entry}
use Rattle.dsql_engine_hearing.specs.journal.declared.entry.Owner.{Owner}
use Rattle.dsql_engine_hearing.specs.journal.declared.entry.Owner.TheVariants.{Call, Tx, Pin, House}
use Rattle.dsql_engine_hearing.specs.journal.declared.entry.Permit.{Permit}
use Rattle.dsql_engine_hearing.specs.journal.Kinds.{number_of, same_owner}
use Rattle.dsql_engine_hearing.specs.journal.HandlesAndCursors.{fits_at_its_place, gives_new_cursor, gives_new_handle, has_width_of_cursor, is_fitting, is_heard}
use Rattle.dsql_engine_hearing.specs.journal.Journal.{may_follow}
use Rattle.dsql_engine_hearing.specs.journal.Permits.{entry_of}
use Rattle.dsql_engine_hearing.specs.journal.Readers.{is_empty}
use Rattle.dsql_engine_hearing.proofs.journal.Conjunctions.{parts5}
use Rattle.dsql_tenure.specs.Beginnings.{is_beginning_of}
use Rattle.dsql_tenure.specs.Judged.{answered}
use Rattle.dsql_tenure.proofs.Standing.{beginning-more}
use Rattle.dsql_wire.specs.Journaled.{MayBeSent}
use Rattle.dsql_wire.specs.Opening.{opens}
use Rattle.dsql_engine_hearing.specs.pool.declared.conn.Place.{Place}
use Rattle.dsql_engine_hearing.specs.pool.declared.conn.Place.TheVariants.{Lent, Opening, Closing}
use Rattle.dsql_engine_hearing.specs.pool.declared.moves.Move.{Move}
use Rattle.dsql_engine_hearing.specs.pool.Places.{is_closing, is_opening}
use Rattle.dsql_engine_hearing.specs.pool.Pooled.{next_tenure}
use Rattle.dsql_engine_hearing.proofs.laws.Tests.{same_itself, together}
use Rattle.dsql_engine_hearing.specs.history.declared.event.Event.{Event}
use Rattle.dsql_engine_hearing.specs.history.declared.event.Event.TheVariants.{Heard}
use Rattle.dsql_engine_hearing.specs.history.Readers.Course.{has_ended}
use Rattle.dsql_engine_hearing.specs.history.Readers.Journals.{journal}
use Rattle.dsql_engine_hearing.specs.history.Readers.Owed.{owed}
use Rattle.dsql_engine_hearing.specs.history.Readers.Pool.{place, pool}
use Rattle.dsql_engine_hearing.specs.history.Rules.Line.{is_due, keeps_line, may_come, sends_from, tidying}
use Rattle.dsql_engine_hearing.specs.history.Rules.Moves.{hears_in, keeps_sets}
use Rattle.dsql_engine_hearing.specs.history.Rules.Sent.{asked_by}
use Rattle.dsql_engine_hearing.specs.history.Rules.Settled.{owes_nothing}
use Rattle.dsql_engine_hearing.specs.history.Legal.{Lawful}
use Rattle.dsql_engine_hearing.proofs.laws.Journals.{keeps_journals_of}
use Rattle.dsql_engine_hearing.proofs.laws_calls.FirstAnswers.{follows_connect, unheard}
use Rattle.dsql_engine_hearing.proofs.laws_calls.Tidying.{tidying_comes, unheld_once_ended}
use Rattle.dsql_engine_hearing.specs.laws_due.Carried.{carried}
use Rattle.dsql_engine_hearing.proofs.laws_due.Following.{follows_due, follows_shut}
use Rattle.dsql_engine_hearing.proofs.laws_due.Standing.{opening_opens}
use Rattle.dsql_engine_hearing.proofs.laws_due.Stood.{stands}
use Rattle.dsql_engine_hearing.specs.going.Permits.{call_permit, chore_at, chore_permit, house_permit, tx_carried}
use Rattle.dsql_engine_hearing.proofs.going.Carried.{chore_carried}
use Rattle.dsql_engine_hearing.specs.Hearing.{IsWelcome}
use Rattle.dsql_engine_laws.specs.Chores.{MayBeMade}
use Rattle.dsql_engine_laws.proofs.Itself.{neither, tidying_itself}
use Rattle.dsql_engine_laws.proofs.Tidied.{tidied_after_end}

-- The entry that an answer makes of a permit carries its transaction, unless it is a Begin that isn't done.

abbrev heard_as : Permit → DriverAnswer → Entry
heard_as p a = record { conn = p.conn; tenure = p.tenure; owner = p.owner; call_no = p.call_no; tx = carried p.owner p.call a; call = p.call; answer = a }

carries_as : (own : Owner) (q : DriverCall) (a : DriverAnswer) → (is_begin q && not (is_done a)) ≡ false → tx_carried own q ≡ carried own q a
carries_as (Tx k) q a begins = by (is_reset q) (is_valid q) (is_begin q && not (is_done a)) begins
  where
    by : (reset valid fails : Bool) → fails ≡ false → cond (reset || valid) 0 k ≡ cond (reset || (valid || fails)) 0 k
    by true valid fails h = refl
    by false true fails h = refl
    by false false fails h = ap (λ b. cond b 0 k) (sym h)
carries_as own q a begins = refl

carries_none : (own : Owner) (q : DriverCall) (a : DriverAnswer) → (is_begin q && not (is_done a)) ≡ true → 0 ≡ carried own q a
carries_none (Tx k) q a fails = by (is_reset q) (is_valid q) (is_begin q && not (is_done a)) fails
  where
    by : (reset valid fails : Bool) → fails ≡ true → 0 ≡ cond (reset || (valid || fails)) 0 k
    by true valid fails h = refl
    by false true fails h = refl
    by false false fails h = ap (λ b. cond b 0 k) (sym h)
carries_none own q a fails = refl

answered_as : (p : Permit) (a : DriverAnswer) → p.tx ≡ tx_carried p.owner p.call → answered p a ≡ heard_as p a
answered_as p a carries = by (is_begin p.call) (is_done a) (carries_as p.owner p.call a) (carries_none p.owner p.call a)
  where
    with_tx : (tx : ℕ) → tx ≡ carried p.owner p.call a → record (entry_of p a) { tx = tx } ≡ heard_as p a
    with_tx tx same = ap (λ (x : ℕ). record (entry_of p a) { tx = x }) same

    by : (begins done : Bool) → ((begins && not done) ≡ false → tx_carried p.owner p.call ≡ carried p.owner p.call a) → ((begins && not done) ≡ true → 0 ≡ carried p.owner p.call a)
        → cond begins (cond done (entry_of p a) (record (entry_of p a) { tx = 0 })) (entry_of p a) ≡ heard_as p a
    by true true is none = with_tx p.tx (carries ∙ is refl)
    by true false is none = with_tx 0 (none refl)
    by false done is none = with_tx p.tx (carries ∙ is refl)

-- Each entry of a connection's journal is of that connection.
one_connection : (H : List Event) (c : ℕ) → list_all (λ x. x.conn == c) (journal H c) ≡ true
one_connection [] c = refl
one_connection (Heard e ∷ H) c = by (e.conn == c) refl (one_connection H c)
  where
    by : (b : Bool) → (e.conn == c) ≡ b → list_all (λ x. x.conn == c) (journal H c) ≡ true → list_all (λ x. x.conn == c) (cond b (e ∷ journal H c) (journal H c)) ≡ true
    by true is h = together (e.conn == c) (list_all (λ x. x.conn == c) (journal H c)) is h
    by false is h = h
one_connection (_ ∷ H) c = one_connection H c

not_so : (b : Bool) → not b ≡ true → b ≡ false
not_so true h = absurd cc
not_so false h = refl

-- An answer that fits at its place fits its driver call and doesn't report a lack of memory.
fitting : (J : List Entry) (e : Entry) → fits_at_its_place J e ≡ true → (fits_of e.call e.answer ≡ true) × (is_memory e.answer ≡ false)
fitting J e h =
    let p = parts5 (is_heard e) (is_fitting e) (gives_new_handle J e) (gives_new_cursor J e) (has_width_of_cursor J e) h in
    (p.1, not_so (is_memory e.answer) p.0)

-- What is known of the layer's own driver call on connection c, before the forms that programs need.
record IsChore (H : List Event) (c : ℕ) (p : Permit) : Type 0 where
  conn : p.conn ≡ c
  layer : p.call_no ≡ 0
  tx : p.tx ≡ tx_carried p.owner p.call
  first : is_connect p.call ≡ true → (opens p ≡ true) × (journal H c ≡ [])
  sets : (a : DriverAnswer) → keeps_sets H (Heard (heard_as p a)) ≡ true
  line : (a : DriverAnswer) → keeps_line H (Heard (heard_as p a)) ≡ true
  goes_on : (a : DriverAnswer) → fits_at_its_place (journal H c) (heard_as p a) ≡ true → may_follow (journal H c) (heard_as p a) ≡ true

-- A connection that is being opened, on which nothing was heard yet.

nothing_heard : (H : List Event) (c : ℕ) (wanted : Option Owner) → Lawful H → owed H ≡ [] → place H c ≡ Some (Opening wanted) → journal H c ≡ []
nothing_heard H c wanted l owing at =
    let o = opening_opens H c wanted (stands H l c) at in
    o.fresh (unheard H c owing (ap (λ p. is_opening p || is_closing p) at))

connects : (H : List Event) (c : ℕ) (wanted : Option Owner) → Lawful H → owed H ≡ [] → place H c ≡ Some (Opening wanted) → IsChore H c (house_permit c 1 Connect)
connects H c wanted l owing at =
    let p : Permit = house_permit c 1 Connect in
    record {
      conn = refl;
      layer = refl;
      tx = refl;
      first = λ k. (refl, nothing_heard H c wanted l owing at);
      sets = λ a. ap (λ q. hears_in (pool H) q (heard_as p a)) at;
      line = λ a. ap (λ q. sends_from H q (heard_as p a)) at;
      goes_on = λ a fits. let f = fitting (journal H c) (heard_as p a) fits in follows_connect H c wanted a l owing at f.0 f.1;
    }

-- A connection that is closing.

shuts : (H : List Event) (c : ℕ) → Lawful H → owed H ≡ [] → place H c ≡ Some Closing → IsChore H c (house_permit c (next_tenure (pool H) c) Shut)
shuts H c l owing at =
    let t = next_tenure (pool H) c in
    let p : Permit = house_permit c t Shut in
    record {
      conn = refl;
      layer = refl;
      tx = refl;
      first = λ k. absurd cc;
      sets = λ a. ap (λ q. hears_in (pool H) q (heard_as p a)) at ∙ together (t == t) true (same_itself t) refl;
      line = λ a. ap (λ q. sends_from H q (heard_as p a)) at;
      goes_on = λ a fits. let f = fitting (journal H c) (heard_as p a) fits in follows_shut H c a l owing at f.0 f.1;
    }

-- A connection that is lent to a call whose rows ended with the run, or to a transaction that did.

owner_itself : (own : Owner) → same_owner own own ≡ true
owner_itself (Call n) = same_itself n
owner_itself (Tx n) = same_itself n
owner_itself (Pin n) = same_itself n
owner_itself House = refl

heard_lent : (H : List Event) (c t : ℕ) (own : Owner) (q : DriverCall) (a : DriverAnswer) → is_connect q ≡ false → is_shut q ≡ false → hears_in (pool H) (Some (Lent t own)) (heard_as (call_permit c t own 0 q) a) ≡ true
heard_lent H c t own q a plain closed =
    together (not (is_connect q || is_shut q)) ((t == t) && same_owner own own) (ap (λ b. not (b || is_shut q)) plain ∙ ap (λ b. not b) closed)
    (together (t == t) (same_owner own own) (same_itself t) (owner_itself own))

tidy_comes : (H : List Event) (c t : ℕ) (own : Owner) (q : DriverCall) (a : DriverAnswer) → Lawful H → place H c ≡ Some (Lent t own) → tidying H (number_of own) ≡ Some q → may_come H (heard_as (call_permit c t own 0 q) a) ≡ true
tidy_comes H c t own q a l at is =
    let ended : has_ended H ≡ true = tidied_after_end H c t own l at (ap (λ o. is_some o) is) in
    tidying_comes H own (heard_as (call_permit c t own 0 q) a) refl at (unheld_once_ended H c l ended) (ap (λ o. is_due o q) is ∙ tidying_itself H (number_of own) q l is)

tidies : (H : List Event) (c t : ℕ) (own : Owner) (q : DriverCall) → Lawful H → place H c ≡ Some (Lent t own) → tidying H (number_of own) ≡ Some q → IsChore H c (call_permit c t own 0 q)
tidies H c t own q l at is =
    let p : Permit = call_permit c t own 0 q in
    let kind = neither H (number_of own) q is in
    let comes : (a : DriverAnswer) → may_come H (heard_as p a) ≡ true = λ a. tidy_comes H c t own q a l at is in
    record {
      conn = refl;
      layer = refl;
      tx = refl;
      first = λ k. let clash : true ≡ false = sym k ∙ kind.0 in absurd cc;
      sets = λ a. ap (λ it. hears_in (pool H) it (heard_as p a)) at ∙ heard_lent H c t own q a kind.0 kind.1;
      line = λ a. ap (λ it. sends_from H it (heard_as p a)) at ∙ comes a;
      goes_on = λ a fits. follows_due H (heard_as p a) l (comes a) at refl fits;
    }

chore_there : (H : List Event) (c : ℕ) (p : Permit) (at : Option Place) → Lawful H → owed H ≡ [] → place H c ≡ at → chore_at H c at ≡ Some p → IsChore H c p
chore_there H c p (Some (Opening wanted)) l owing is k =
    let same : house_permit c 1 Connect ≡ p = cc in
    subst (λ (x : Permit). IsChore H c x) same (connects H c wanted l owing is)
chore_there H c p (Some Closing) l owing is k =
    let same : house_permit c (next_tenure (pool H) c) Shut ≡ p = cc in
    subst (λ (x : Permit). IsChore H c x) same (shuts H c l owing is)
chore_there H c p (Some (Lent t own)) l owing is k = by (tidying H (number_of own)) refl k
  where
    by : (d : Option DriverCall) → tidying H (number_of own) ≡ d → option_map (call_permit c t own 0) d ≡ Some p → IsChore H c p
    by None due j = absurd cc
    by (Some q) due j = let same : call_permit c t own 0 q ≡ p = cc in subst (λ (x : Permit). IsChore H c x) same (tidies H c t own q l is due)
chore_there H c p _ l owing is k = absurd cc

-- The connection's journal lets the layer's driver call be sent.
chore_sent : (H : List Event) (c : ℕ) (p : Permit) → Lawful H → IsChore H c p → MayBeSent c (journal H c) p
chore_sent H c p l it = λ a fits.
    let J = journal H c in
    let e : Entry = heard_as p a in
    let keeps = keeps_journals_of H l in
    let same : answered p a ≡ e = answered_as p a it.tx in
    let there : fits_at_its_place J e ≡ true = ap (fits_at_its_place J) (sym same) ∙ fits in
    ap (λ (x : Entry). is_beginning_of c (x ∷ J)) same
    ∙ (beginning-more c J e (keeps.beginnings c) (one_connection H c) ∙ together (e.conn == c) (may_follow J e) (ap (λ d. d == c) it.conn ∙ same_itself c) (it.goes_on a there))

-- What fits as the answer is welcome.
chore_welcome : (H : List Event) (c : ℕ) (p : Permit) (a : DriverAnswer) → IsChore H c p → fits_at_its_place (journal H c) (answered p a) ≡ true → IsWelcome H (answered p a)
chore_welcome H c p a it fits =
    let e : Entry = heard_as p a in
    let same : answered p a ≡ e = answered_as p a it.tx in
    let there : fits_at_its_place (journal H c) e ≡ true = ap (fits_at_its_place (journal H c)) (sym same) ∙ fits in
    let welcome : IsWelcome H e = record { sets = it.sets a; line = it.line a; carries = refl; fits = subst (λ d. fits_at_its_place (journal H d) e ≡ true) (sym it.conn) there } in
    subst (λ (x : Entry). IsWelcome H x) (sym same) welcome

pub no_moves : (ms : List Move) → is_empty ms ≡ true → ms ≡ []
no_moves [] h = refl
no_moves (m ∷ ms) h = absurd cc

pub chore_made : (H : List Event) (c : ℕ) (p : Permit) → Lawful H → owes_nothing H ≡ true → chore_permit H c ≡ Some p → MayBeMade H c p
chore_made H c p l none is =
    let it = chore_there H c p (place H c) l (no_moves (owed H) none) refl is in
    record {
      conn = it.conn;
      layer = it.layer;
      tx = it.tx;
      carries = chore_carried H c p l is (asked_by H 0);
      first = it.first;
      sent = chore_sent H c p l it;
      welcome = λ a fits. chore_welcome H c p a it fits;
    }
