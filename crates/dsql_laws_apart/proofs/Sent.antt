-- Proves what is known of an answer in a tenure of a call or a transaction. Its connection is lent to the tenure's
-- owner, and its call is unfinished.
use Rattle.std.proofs.Common.{◌≡◌, ◌≢◌, ◌==◌, true, false, ◌&&◌, List, ◌∷◌, sym, ap, ◌∙◌}
use Rattle.std.proofs.lemmas.Bool.{and_right}
use Rattle.dsql_laws_calls.specs.journal.declared.entry.Entry.{Entry}
use Rattle.dsql_laws_calls.specs.journal.Kinds.{is_house}
use Rattle.dsql_laws_calls.proofs.laws.Tests.{other_number}
use Rattle.dsql_laws_calls.specs.history.declared.event.Event.{Event}
use Rattle.dsql_laws_calls.specs.history.declared.event.Event.TheVariants.{Heard}
use Rattle.dsql_laws_calls.specs.history.Readers.Unfinished.{is_unfinished}
use Rattle.dsql_laws_calls.specs.history.Readers.Works.{borrower, owner_of}
use Rattle.dsql_laws_calls.specs.history.Legal.{Allowed, Lawful}
use Rattle.dsql_laws_calls.proofs.Owners.{owner_is_of}
use Rattle.dsql_laws_calls.proofs.Coming.{stays_with_its_call}
use Rattle.dsql_laws_callers.proofs.Heard.{HeardLent, heard_lent}
use Rattle.dsql_laws_callers.proofs.KeptApart.{uses_its_own}

pub heard_called : (H : List Event) (e : Entry) → Allowed H (Heard e) → e.call_no ≢ 0 → HeardLent H e
heard_called H e a some = heard_lent H e a (and_right (is_house e.owner) (e.call_no == 0) (other_number e.call_no 0 some))

pub heard_owned : (H : List Event) (e : Entry) → Allowed H (Heard e) → is_house e.owner ≡ false → HeardLent H e
heard_owned H e a own = heard_lent H e a (ap (λ b. b && (e.call_no == 0)) own)

pub sends_unfinished : (H : List Event) (e : Entry) → Lawful (Heard e ∷ H) → e.call_no ≢ 0 → is_unfinished H e.call_no ≡ true
sends_unfinished H e l some =
    let f = heard_called H e l.1 some in
    let u = stays_with_its_call H e l.0 f.comes in
    u.unfinished some

-- The owner of the tenure is that for whom the call's borrower asked.
pub owner_of_borrower : (H : List Event) (e : Entry) → Lawful (Heard e ∷ H) → e.call_no ≢ 0 → e.owner ≡ owner_of H (borrower H e.call_no)
owner_of_borrower H e l some =
    let f = heard_called H e l.1 some in
    let own = owner_is_of H e.conn e.tenure e.owner l.0 f.lent in
    own.1 ∙ ap (owner_of H) (sym (uses_its_own H e l some))
