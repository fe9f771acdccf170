-- The two ways to run a script: it is raced if a flag is true, and played otherwise. Says for both what the history has
-- of the script's lines.
use Rattle.std.specs.Prelude.{ℕ, Bool, true, false, List, [], Option}
use Rattle.dsql_hall.specs.driver.declared.caps.Caps.{Caps}
use Rattle.dsql_hall.specs.driver.Wires.{FleetTold}
use Rattle.dsql_hall.specs.history.declared.event.Event.{Event}
use Rattle.dsql_hall.specs.follows.declared.line.Line.{Line}
use Rattle.dsql_hall.specs.player_wires.Made.{Made}
use Rattle.dsql_hall.specs.player.Planned.{plans_made}
use Rattle.dsql_hall.specs.Raced.{RacesInPart, RacesThrough, plans_first}
use Rattle.dsql_run_outcome.specs.Followed.{FollowsAll}
use Rattle.dsql_run_outcome.specs.Lent.{StopsAsking}
use Rattle.dsql_run_outcome.specs.Runs.{CutAtEnd, CutShort}

-- Holds if the history carries out these lines, the oldest first. A history that is played follows them one after
-- another. In a race each client's lines are entered in their order.
abbrev pub CarriesOut : Bool → Event → List Line → List Event → Type 0
CarriesOut false run lines history = FollowsAll run lines history
CarriesOut true run lines history = RacesThrough run lines history

-- Returns the faults that the lines plan: those of a played run each at its line, and those of a race before all else.
abbrev pub plans_in : (race : Bool) (run : Event) (lines : List Line) (history : List Event)
    → CarriesOut race run lines history → List Made
plans_in false run lines history all = plans_made run all.played.parts
plans_in true run lines history all = plans_first lines

-- Holds if the run had to stop for want of memory or of room for its events. A race then says nothing of the fleet:
-- several driver calls may have been under way.
abbrev pub HasToStop : Bool → Event → List Line → List Event → Option FleetTold → Option FleetTold → Type 0
HasToStop false run lines history before after = StopsAsking run lines history before after
HasToStop true run lines history before after = RacesInPart run lines history

-- Holds if the sink failed. A played run writes each line's events at once. A race writes all of its events at its end,
-- after all lines were read.
abbrev pub FailsToWrite : Bool → Option (List ℕ) → Option (List ℕ) → Option Caps → List Line → Bool → Option (List ℕ)
    → Event → List Event → Option (List ℕ) → Type 0
FailsToWrite false before after asked lines source_failed w run history now =
    CutShort before after asked lines source_failed w run history now
FailsToWrite true before after asked lines source_failed w run history now =
    CutAtEnd true before after asked lines source_failed w [] history now
