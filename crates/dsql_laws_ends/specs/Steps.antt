-- Defines the events of a step, in which one call goes on.
use Rattle.std.specs.Prelude.{ℕ, ◌≡◌, Bool, true, List, [], ◌∷◌, ◌++◌}
use Rattle.std.specs.List.{list_all}
use Rattle.dsql_laws_calls.specs.history.declared.event.Event.{Event}
use Rattle.dsql_laws_calls.specs.history.declared.event.Event.TheVariants.{Heard, Ticked, SetLimit, Ended}
use Rattle.dsql_laws_calls.specs.history.Legal.{Lawful}
use Rattle.dsql_laws_steps.specs.Groups.{is_later_of}

-- Is true if a step of call n may begin with the event: an answer, a limit, a moment, or the run's end. Or call n goes
-- on by itself.
abbrev pub begins_step_of : ℕ → Event → Bool
begins_step_of n (Heard e) = true
begins_step_of n (Ticked now) = true
begins_step_of n (SetLimit setting number) = true
begins_step_of n Ended = true
begins_step_of n e = is_later_of n e

-- Holds if these events, after this past, are a lawful step of call n that begins with this event.
pub record IsStep (past events : List Event) (first : Event) (n : ℕ) : Type 0 where
  pub lawful : Lawful (events ++ past)
  pub later : List Event
  pub group : events ≡ later ++ first ∷ []
  pub of_call : list_all (is_later_of n) later ≡ true
