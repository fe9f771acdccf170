-- What the house knows of its fleet while a race goes on.
use Rattle.std.specs.Prelude.{◌≡◌, Bool, false, List, Option, is_some}
use Rattle.dsql_hall_steps.specs.driver.Wires.{FleetTold}
use Rattle.dsql_hall_steps.specs.driver.declared.wire.Fleet.{Ghosts}
use Rattle.dsql_hall_steps.specs.history.declared.event.Event.{Event}
use Rattle.dsql_hall_steps.specs.player_wires.Made.{Made}
use Rattle.dsql_hall_steps.specs.player_wires.Told.{SameAbility, with_told}
use Rattle.dsql_hall_steps.specs.hall_bonds.Work.{Work}
use Rattle.dsql_hall_steps.specs.House.{IsOwn}

-- Holds if a fleet that recorded exactly the old history and these plans records exactly the new one and these plans.
abbrev pub RecordsOn : List Made → Option FleetTold → Option FleetTold → List Event → List Event → Type 0
RecordsOn made before after old new =
    (first : Option FleetTold) → before ≡ with_told made first old → after ≡ with_told made first new

-- Holds if a fleet goes along with a history, from the old one to the new one. It keeps a record if it kept one before.
pub record GoesAlong {F W : Type 0} (fleet : Ghosts F W) (made : List Made) (before after : F)
    (old new : List Event) : Type 0 where
  pub told : RecordsOn made (fleet.told before) (fleet.told after) old new
  pub telling : is_some (fleet.told after) ≡ is_some (fleet.told before)

-- Holds if the house keeps its bond and its fleet. The fleet went along with the history of the bond, unless the run
-- stopped at one of the layer's driver calls.
pub record KeepsHouse {F W : Type 0} (fleet : Ghosts F W) (made : List Made) (before after : F) (first now : Work)
    (cut : Bool) : Type 0 where
  pub own : IsOwn made now
  pub goes : cut ≡ false → GoesAlong fleet made before after first.past now.past
  pub able : SameAbility fleet before after
