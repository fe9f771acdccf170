-- The layer's own driver calls have no statement. The argument is that such a call carries whatever is asked.
use Rattle.std.proofs.Common.{◌≡◌, ℕ, false, List, [], ◌∷◌, None, Some, refl}
use Rattle.dsql_engine_laws.specs.driver.declared.call.DriverCall.{DriverCall}
use Rattle.dsql_engine_laws.specs.driver.declared.call.DriverCall.TheVariants.{Exec, Prepare, Query}
use Rattle.dsql_engine_laws.specs.driver.declared.call.Input.TheVariants.{Handle, Text}
use Rattle.dsql_engine_laws.specs.journal.declared.entry.Permit.{Permit}
use Rattle.dsql_engine_laws.specs.hearing.value.declared.value.Value.TheVariants.{Nil}
use Rattle.dsql_engine_laws.specs.hearing.works.Line.{Asked}
use Rattle.dsql_engine_laws.specs.hearing.works.declared.work.Aim.TheVariants.{Execute}
use Rattle.dsql_engine_laws.specs.exchanged.Filled.{Carries, carries_statement}
use Rattle.dsql_engine_laws.specs.history.declared.event.Event.{Event}
use Rattle.dsql_engine_laws.specs.history.Legal.{Lawful}
use Rattle.dsql_engine_laws.specs.going.Permits.{chore_permit}
use Rattle.dsql_engine_laws.proofs.going.Carried.{chore_carried}

abbrev nothing : Asked
nothing = record { text = []; params = []; aim = Execute }

abbrev something : Asked
something = record { text = 0 ∷ []; params = record { name = None; value = Nil } ∷ []; aim = Execute }

unstated : (call : DriverCall) → Carries nothing call → Carries something call → carries_statement call ≡ false
unstated (Exec (Text own) params) one two = absurd cc
unstated (Exec (Handle handle) params) one two = absurd cc
unstated (Query (Text own) params) one two = absurd cc
unstated (Query (Handle handle) params) one two = absurd cc
unstated (Prepare own) one two = absurd cc
unstated call one two = refl

pub chore_unstated : (past : List Event) (c : ℕ) (permit : Permit) → Lawful past → chore_permit past c ≡ Some permit → carries_statement permit.call ≡ false
chore_unstated past c permit l is = unstated permit.call (chore_carried past c permit l is nothing) (chore_carried past c permit l is something)
