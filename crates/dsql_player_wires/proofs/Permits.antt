-- What a permit and its journal say: a connection that may send has a wire, and one that may connect has heard
-- nothing. The argument finds an entry that may follow the journal.
use Rattle.std.proofs.Common.{◌≡◌, ℕ, Bool, true, false, cond, not, ◌&&◌, ◌||◌, ◌==◌, Option, Some, None, List, [], ◌∷◌, refl, sym, ◌∙◌, ap, subst}
use Rattle.std.specs.List.{list_all}
use Rattle.dsql_history.specs.driver.Fits.{fits_of, is_done, is_failure, is_memory}
use Rattle.dsql_history.specs.driver.Kinds.{is_begin, is_connect, cursor_of, given_handle, given_cursor}
use Rattle.dsql_history.specs.driver.declared.call.DriverCall.{DriverCall}
use Rattle.dsql_history.specs.driver.declared.call.DriverCall.TheVariants.{Connect, Valid}
use Rattle.dsql_history.specs.driver.declared.answer.DriverAnswer.{DriverAnswer}
use Rattle.dsql_history.specs.driver.declared.answer.DriverAnswer.TheVariants.{Done, Bad, Fail, Memory}
use Rattle.dsql_history.specs.journal.declared.entry.Entry.{Entry}
use Rattle.dsql_history.specs.journal.declared.entry.Permit.{Permit}
use Rattle.dsql_history.specs.journal.Facts.{MayFollow}
use Rattle.dsql_history.specs.journal.HandlesAndCursors.{fits_at_its_place, is_heard, is_fitting, gives_new_handle, gives_new_cursor, has_width_of_cursor, is_as_wide}
use Rattle.dsql_history.specs.journal.Journal.{may_follow, is_journal_prefix}
use Rattle.dsql_history.specs.journal.Kinds.{if_any}
use Rattle.dsql_history.specs.journal.Permits.{entry_of}
use Rattle.dsql_history.specs.journal.Readers.{is_empty, cursors_named, LiveCursor, was_refused, was_shut}
use Rattle.dsql_history.proofs.journal.Conjunctions.{parts2, parts5, join2, join5}
use Rattle.dsql_history.proofs.journal.Sentences.{MayFollow-of}
use Rattle.dsql_tenure.specs.Judged.{answered}
use Rattle.dsql_wire.specs.Journaled.{MayBeSent, permit_of}
use Rattle.dsql_wire.specs.declared.fault.WireFault.{WireFault}
use Rattle.dsql_wire.specs.declared.fault.WireFault.TheVariants as faults
use Rattle.dsql_wire.proofs.Answered.{makes}
use Rattle.dsql_player_wires.specs.WiresFit.{was_opened, is_wired}
use Rattle.dsql_player_wires.proofs.Journals.{not_so}

-- The permit of a fault is the one that was handed back.

pub stray_of : (fault : WireFault) (q p : Permit) → fault ≡ faults.Stray q → permit_of fault ≡ p → fault ≡ faults.Stray p
stray_of fault q p is back = is ∙ ap faults.Stray (ap permit_of (sym is) ∙ back)

pub memory_of : (fault : WireFault) (q p : Permit) → fault ≡ faults.Memory q → permit_of fault ≡ p → fault ≡ faults.Memory p
memory_of fault q p is back = is ∙ ap faults.Memory (ap permit_of (sym is) ∙ back)

-- An answer that fits at its place isn't Memory.
pub heard_answer : (before : List Entry) (e : Entry) → fits_at_its_place before e ≡ true → is_memory e.answer ≡ false
heard_answer before e fits =
    not_so (is_memory e.answer) (parts5 (is_heard e) (is_fitting e) (gives_new_handle before e) (gives_new_cursor before e) (has_width_of_cursor before e) fits).0

-- The entry that an answer makes of a permit is of the permit's connection.
pub conn_of_answered : (p : Permit) (a : DriverAnswer) → (answered p a).conn ≡ p.conn
conn_of_answered p a = go (is_begin p.call) (is_done a)
  where
    go : (b d : Bool) → (cond b (cond d (entry_of p a) (record (entry_of p a) { tx = 0 })) (entry_of p a)).conn ≡ p.conn
    go true true = refl
    go true false = refl
    go false d = refl

-- An answer that gives nothing and fits this call at any place.
record FitsAnywhere (call : DriverCall) : Type 0 where
  answer : DriverAnswer
  heard : is_memory answer ≡ false
  fits : fits_of call answer ≡ true
  no_handle : given_handle answer ≡ None
  no_cursor : given_cursor answer ≡ None
  wide : (c : LiveCursor) → is_as_wide answer c ≡ true

-- There is such an answer for each call.
plain_answer : (call : DriverCall) → FitsAnywhere call
plain_answer Valid = record { answer = Done; heard = refl; fits = refl; no_handle = refl; no_cursor = refl; wide = λ c. refl }
plain_answer _ = record { answer = Bad; heard = refl; fits = refl; no_handle = refl; no_cursor = refl; wide = λ c. refl }

wide_for_any : (entries : List Entry) (answer : DriverAnswer) (rows : Option ℕ) → ((c : LiveCursor) → is_as_wide answer c ≡ true)
    → if_any rows (λ r. list_all (is_as_wide answer) (cursors_named r entries)) ≡ true
wide_for_any entries answer None wide = refl
wide_for_any entries answer (Some r) wide = all_wide (cursors_named r entries)
  where
    all_wide : (cs : List LiveCursor) → list_all (is_as_wide answer) cs ≡ true
    all_wide [] = refl
    all_wide (c ∷ cs) = rw (wide c) (all_wide cs)

fits_anywhere : (entries : List Entry) (e : Entry) (f : FitsAnywhere e.call) → e.answer ≡ f.answer → fits_at_its_place entries e ≡ true
fits_anywhere entries e f is =
    join5 (is_heard e) (is_fitting e) (gives_new_handle entries e) (gives_new_cursor entries e) (has_width_of_cursor entries e)
    (rw (is, f.heard) refl)
    (rw is f.fits)
    (rw (is, f.no_handle) refl)
    (rw (is, f.no_cursor) refl)
    (rw is (wide_for_any entries f.answer (cursor_of e.call) f.wide))

-- An entry of this call that may follow this beginning.
record Follows (entries : List Entry) (call : DriverCall) : Type 0 where
  entry : Entry
  calls : entry.call ≡ call
  follows : MayFollow entries entry
  beginning : is_journal_prefix entries ≡ true

sent_follows : (c : ℕ) (entries : List Entry) (p : Permit) → MayBeSent c entries p → Follows entries p.call
sent_follows c entries p may =
    let f : FitsAnywhere p.call = plain_answer p.call in
    let e : Entry = answered p f.answer in
    let made = makes p f.answer e refl in
    let fits : fits_at_its_place entries e ≡ true = fits_anywhere entries e (subst (λ (q : DriverCall). FitsAnywhere q) (sym made.call) f) made.answer in
    let begins = parts2 (is_journal_prefix (e ∷ entries)) (list_all (λ x. x.conn == c) (e ∷ entries)) (may f.answer fits) in
    let parts = parts2 (may_follow entries e) (is_journal_prefix entries) begins.0 in
    record { entry = e; calls = made.call; follows = MayFollow-of entries e parts.0; beginning = parts.1 }

-- A Connect that was heard and not refused was answered Done.
opened_first : (e : Entry) → is_connect e.call ≡ true → not (is_memory e.answer) ≡ true → fits_of e.call e.answer ≡ true → (is_connect e.call && is_failure e.answer) ≡ false → is_done e.answer ≡ true
opened_first e opens heard fits refused = by_answer e.call e.answer opens heard fits refused
  where
    by_answer : (q : DriverCall) (a : DriverAnswer) → is_connect q ≡ true → not (is_memory a) ≡ true → fits_of q a ≡ true → (is_connect q && is_failure a) ≡ false → is_done a ≡ true
    by_answer Connect Done opens heard fits refused = refl
    by_answer Connect Memory opens heard fits refused = absurd cc
    by_answer Connect Bad opens heard fits refused = absurd cc
    by_answer Connect (Fail text) opens heard fits refused = absurd cc
    by_answer Connect a opens heard fits refused = absurd cc
    by_answer q a opens heard fits refused = absurd cc

second : (a b : Bool) → (a || b) ≡ false → b ≡ false
second true b h = absurd cc
second false b h = h

first : (a b : Bool) → (a || b) ≡ false → a ≡ false
first true b h = h
first false b h = refl

or_second : (a b : Bool) → b ≡ true → (a || b) ≡ true
or_second true b h = refl
or_second false b h = h

-- In a beginning that isn't empty and has no refusal, the Connect was answered Done.
opened_before : (entries : List Entry) → is_empty entries ≡ false → is_journal_prefix entries ≡ true → was_refused entries ≡ false → was_opened entries ≡ true
opened_before [] some begins refused = absurd cc
opened_before (e ∷ []) some begins refused =
    let m : MayFollow [] e = MayFollow-of [] e (parts2 (may_follow [] e) true begins).0 in
    let opens : is_connect e.call ≡ true = m.whole_journal.connect_first in
    let done : is_done e.answer ≡ true = opened_first e opens m.answer.heard m.answer.fitting (first (is_connect e.call && is_failure e.answer) false refused) in
    rw (opens, done) refl
opened_before (e ∷ x ∷ entries) some begins refused =
    let p = parts2 (may_follow (x ∷ entries) e) (is_journal_prefix (x ∷ entries)) begins in
    or_second (is_connect e.call && is_done e.answer) (was_opened (x ∷ entries))
    (opened_before (x ∷ entries) refl p.1 (second (is_connect e.call && is_failure e.answer) (was_refused (x ∷ entries)) refused))

not_true : (b : Bool) → not b ≡ true → b ≡ false
not_true true h = absurd cc
not_true false h = refl

some_before : (entries : List Entry) (b : Bool) → b ≡ false → cond (is_empty entries) b (not b) ≡ true → is_empty entries ≡ false
some_before [] b plain h = let clash : false ≡ true = sym plain ∙ h in absurd cc
some_before (x ∷ entries) b plain h = refl

-- If a journal lets a call other than Connect be sent, its connection has a wire.
pub sent_wired : (c : ℕ) (entries : List Entry) (p : Permit) → MayBeSent c entries p → is_connect p.call ≡ false → is_wired entries ≡ true
sent_wired c entries p may plain =
    let f : Follows entries p.call = sent_follows c entries p may in
    let w = f.follows.whole_journal in
    let some : is_empty entries ≡ false = some_before entries (is_connect f.entry.call) (ap is_connect f.calls ∙ plain) w.connect_first in
    join2 (was_opened entries) (not (was_shut entries))
    (opened_before entries some f.beginning (not_true (was_refused entries) w.not_after_refusal))
    w.not_after_shut

none_before : (entries : List Entry) (b : Bool) → b ≡ true → cond (is_empty entries) b (not b) ≡ true → entries ≡ []
none_before [] b opens h = refl
none_before (x ∷ entries) b opens h = let clash : false ≡ true = sym (ap not opens) ∙ h in absurd cc

-- A journal that lets a Connect be sent is empty.
pub connect_unheard : (c : ℕ) (entries : List Entry) (p : Permit) → MayBeSent c entries p → is_connect p.call ≡ true → entries ≡ []
connect_unheard c entries p may opens =
    let f : Follows entries p.call = sent_follows c entries p may in
    none_before entries (is_connect f.entry.call) (ap is_connect f.calls ∙ opens) f.follows.whole_journal.connect_first
