-- A call whose answer is heard has no reply yet.
use Rattle.std.proofs.Common.{◌≡◌, ◌≢◌, ◌==◌, false, List, ◌∷◌, arith}
use Rattle.std.proofs.lemmas.Bool.Decides.{nat_tests}
use Rattle.dsql_laws_calls.specs.journal.declared.entry.Entry.{Entry}
use Rattle.dsql_laws_calls.specs.history.declared.event.Event.{Event}
use Rattle.dsql_laws_calls.specs.history.declared.event.Event.TheVariants.{Heard}
use Rattle.dsql_laws_calls.specs.history.Readers.Pool.{place}
use Rattle.dsql_laws_calls.specs.history.Readers.Unfinished.{is_unfinished}
use Rattle.dsql_laws_calls.specs.history.Legal.{Lawful}
use Rattle.std.specs.Prelude.{true}
use Rattle.dsql_laws_calls.proofs.Idle.{came_of}
use Rattle.dsql_laws_calls.proofs.Looks.{heard_there, comes}

pub heard_unfinished : (H : List Event) (e : Entry) → Lawful (Heard e ∷ H) → e.call_no ≢ 0 → is_unfinished H e.call_no ≡ true
heard_unfinished H e l some =
    let there = heard_there H e l.1 in
    let own : (e.call_no == 0) ≡ false = grind (arith, nat_tests, some) in
    (came_of H e l.0 (comes H e (place H e.conn) there.sets there.line own) own).unfinished
