-- Defines consecutive whole steps.
use Rattle.std.specs.Prelude.{◌≡◌, true, List}
use Rattle.dsql_laws.specs.history.declared.event.Event.{Event}
use Rattle.dsql_follows.specs.Moments.{Moment, after_events}
use Rattle.dsql_follows.specs.Sentences.{passed, begins_with_step, is_whole, were_whole, enters_in_order}
use Rattle.dsql_laws_steps.specs.Steps.{IsAtRest}

-- Holds if these events after a moment are whole steps that enter lines in their order and lead to this moment.
pub record Steps (m : Moment) (events : List Event) (now : Moment) : Type 0 where
  pub begins : begins_with_step m events ≡ true
  pub whole : were_whole (passed m events) ≡ true
  pub ordered : enters_in_order m events ≡ true
  pub now_is : after_events m events ≡ now
  pub rest : IsAtRest now
  pub now_whole : is_whole now ≡ true
