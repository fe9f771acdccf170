-- A call's record after an answer to the call, and after an event that isn't one.
use Rattle.std.proofs.Common.{◌≡◌, ◌≢◌, ℕ, ◌==◌, Bool, true, false, cond, List, ◌∷◌, refl, ap, ◌∙◌, arith}
use Rattle.dsql_laws_calls.specs.driver.Fits.{fits_of, is_memory}
use Rattle.dsql_laws_calls.specs.journal.declared.entry.Entry.{Entry}
use Rattle.dsql_laws_calls.specs.journal.Facts.{MayFollow}
use Rattle.dsql_laws_calls.proofs.journal.Sentences.{MayFollow-of}
use Rattle.dsql_laws_calls.proofs.laws_work.Rows.{not_true, row_at}
use Rattle.dsql_laws_calls.specs.history.Readers.Tries.{try_number, tries}
use Rattle.dsql_laws_calls.proofs.laws.Tests.{other_number}
use Rattle.dsql_laws_calls.specs.history.declared.event.Event.{Event}
use Rattle.dsql_laws_calls.specs.history.declared.event.Event.TheVariants.{Entered, Heard, Replied}
use Rattle.dsql_laws_calls.specs.history.declared.work.Work.TheVariants.{Look}
use Rattle.dsql_laws_calls.specs.history.Readers.Calls.{calls, call_record, nobody, decided, decided_by, trying}
use Rattle.dsql_laws_calls.specs.history.Readers.Decisions.{decision, Trying}
use Rattle.dsql_laws_calls.specs.history.Readers.Journals.{journal}
use Rattle.dsql_laws_calls.specs.history.Readers.Unfinished.{is_unfinished}
use Rattle.dsql_laws_calls.specs.history.Readers.Works.{work}
use Rattle.dsql_laws_calls.specs.history.Legal.{Allowed}
use Rattle.dsql_laws_calls.proofs.BeginningsAt.{is_answer, not_new}
use Rattle.dsql_laws_calls.proofs.LineParts.{heard_follows}
use Rattle.dsql_laws_calls.proofs.Stays.{as_many, has_entered}
use Rattle.dsql_laws_calls.proofs.Works.{enters_next, old_record, other_replied, still_unfinished}

-- Returns how call n stands in its newest try.
abbrev pub trying_of : List Event → ℕ → Trying
trying_of H n = trying (try_number (tries H n)) (work H n) (call_record H n)

-- After an answer, its call has settled what the answer decides.
pub own_record : (H : List Event) (e : Entry) → (work H e.call_no ≡ Look → ⊥) → e.call_no ≢ 0
    → decided (Heard e ∷ H) e.call_no
    ≡ decision (trying_of H e.call_no) e.call e.answer (decided H e.call_no)
own_record H e busy some =
    let m = e.call_no in
    let less = has_entered H m busy in
    let rows = as_many H in
    let new = decided_by (try_number (tries H m)) (work H m) e (call_record H m) in
    let here : call_record (Heard e ∷ H) m ≡ new = row_at (calls H) m new nobody (omega (arith, less, rows)) in
    let of_call : (m == 0) ≡ false = other_number m 0 some in
    ap (λ r. r.decided) here
    ∙ ap
    (λ (b : Bool).
    (cond b (call_record H m) (record (call_record H m) { decided = decision (trying_of H m) e.call e.answer (decided H m) })).decided)
    of_call

-- The record of such a call stays the same until an answer or its reply.
pub record_stays : (H : List Event) (e : Event) (n : ℕ) → Allowed H e → is_answer e ≡ false → (work H n ≡ Look → ⊥) → is_unfinished (e ∷ H) n ≡ true → call_record (e ∷ H) n ≡ call_record H n
record_stays H (Entered client m op) n a h busy u = old_record H client m op n (enters_next H client m op a) (not_new H client m op n a busy)
record_stays H (Replied m reply) n a h busy u = let b = still_unfinished H m reply n u in other_replied H m reply n b.0
record_stays H (Heard e) n a h busy u = absurd cc
record_stays H e n a h busy u = refl

pub fitting : (H : List Event) (e : Entry) → Allowed H (Heard e) → (fits_of e.call e.answer ≡ true) × (is_memory e.answer ≡ false)
fitting H e a = let m : MayFollow (journal H e.conn) e = MayFollow-of (journal H e.conn) e (heard_follows H e a) in (m.answer.fitting, not_true (is_memory e.answer) m.answer.heard)
