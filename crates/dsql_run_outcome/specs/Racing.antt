-- What holds as the lines of a script are raced, and after it.
use Rattle.std.specs.Prelude.{◌≡◌, ◌≤◌, true, List, ◌++◌, length, reverse, Option, Result, Err}
use Rattle.dsql_hall.specs.driver.Wires.{FleetTold}
use Rattle.dsql_hall.specs.history.declared.event.Event.{Event}
use Rattle.dsql_hall.specs.history.Legal.{Legal}
use Rattle.dsql_hall.specs.follows.declared.line.Line.{Line}
use Rattle.dsql_hall.specs.follows.Moments.{Moment}
use Rattle.dsql_hall.specs.laws_steps.Groups.{most_events}
use Rattle.dsql_hall.specs.player_wires.Told.{with_told}
use Rattle.dsql_hall.specs.Raced.{RacesInPart, RacesThrough, plans_first}
use Rattle.dsql_script_source.specs.declared.stop.Stop.{Stop}
use Rattle.dsql_script_source.specs.declared.stop.Stop.TheVariants.{Full}
use Rattle.dsql_run_outcome.specs.Playing.{IsOver}
use Rattle.dsql_run_outcome.specs.Runs.{ran_out}

-- Returns the moment after these lines, the oldest first, are all read.
abbrev pub met_all : List Line → Moment → Moment
met_all lines m = record m { lines = reverse lines ++ m.lines }

-- Holds of a race of these lines that is over, if this stopped it. The fleet recorded this before. Unless the race had
-- to stop, the fleet then records exactly the race and the faults that the lines plan.
pub record LinesRaced (stopped : Result Unit Stop) (run : Event) (lines : List Line) (past : List Event)
    (before after : Option FleetTold) : Type 0 where
  pub through : ran_out stopped ≡ true → RacesThrough run lines past
  pub in_part : RacesInPart run lines past
  pub over : ran_out stopped ≡ true → IsOver past
  pub told : ran_out stopped ≡ true → after ≡ with_told (plans_first lines) before past
  pub legal : Legal past
  pub full : stopped ≡ Err Full → most_events ≤ length past
