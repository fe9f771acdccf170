-- How a race ends.
use Rattle.std.specs.Prelude.{◌≡◌, ◌≤◌, true, List, length, Result, Err, OnOk}
use Rattle.dsql_hall_steps.specs.history.declared.event.Event.{Event}
use Rattle.dsql_hall_steps.specs.history.Legal.{Legal}
use Rattle.dsql_hall_steps.specs.history.Readers.Course.{has_ended}
use Rattle.dsql_hall_steps.specs.history.Rules.House.{is_quiet}
use Rattle.dsql_hall_steps.specs.follows.declared.line.Line.{Line}
use Rattle.dsql_hall_steps.specs.laws_ends.Over.{IsOver}
use Rattle.dsql_hall_steps.specs.laws_steps.Groups.{most_events}
use Rattle.dsql_hall_steps.specs.player.declared.halt.Halt.{Halt}
use Rattle.dsql_hall_steps.specs.player.declared.halt.Halt.TheVariants.{Full}
use Rattle.dsql_hall_steps.specs.player.Playing.{Playing}
use Rattle.dsql_hall.specs.Raced.{RacesInPart, RacesThrough}

-- Holds if a race of these lines, the oldest first, is over. If nothing stopped it, it carried them out and its run has
-- ended. If it wanted room for its events, it has as many as it may have.
pub record EndsRace (run : Event) (lines : List Line) (stopped : Result (Unit {0}) Halt) (p : Playing) : Type 0 where
  pub through : OnOk stopped (RacesThrough run lines p.past)
  pub in_part : RacesInPart run lines p.past
  pub over : OnOk stopped (IsOver p.past)
  pub ended : OnOk stopped (has_ended p.past ≡ true)
  pub quiet : OnOk stopped (is_quiet p.past ≡ true)
  pub legal : Legal p.past
  pub full : stopped ≡ Err Full → most_events ≤ length p.past
  pub whole : p.trimmed ≡ 0
