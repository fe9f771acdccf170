-- The layer's core, as contracts see it.
use Rattle.std.specs.Prelude.{◌≡◌, ◌≤◌, ◌+◌, ℕ, Bool, false, cond, not, ◌&&◌, List, length, Option, Some, None}
use Rattle.dsql_engine_hearing.specs.history.declared.event.Event.{Event}
use Rattle.dsql_engine_hearing.specs.history.declared.record.Flight.{Flight}
use Rattle.dsql_engine_hearing.specs.history.Readers.Calls.{is_busy}
use Rattle.dsql_engine_hearing.specs.history.Readers.Clients.{call_of}
use Rattle.dsql_engine_hearing.specs.history.Readers.Course.{has_ended}
use Rattle.dsql_engine_hearing.specs.history.Rules.Flights.{is_in_flight}
use Rattle.dsql_engine_hearing.specs.history.Rules.Stands.{stand}
use Rattle.dsql_engine_hearing.specs.going.declared.next.Why.{Why}
use Rattle.dsql_engine_hearing.specs.going.Answers.{why_blocked}
use Rattle.dsql_engine_hearing.specs.going.Stepping.{events_of_a_step}
use Rattle.dsql_engine_hearing.specs.laws_steps.Groups.{most_events}

-- A run's history, newest event first, and the number of its oldest events that were trimmed. Then the flights of
-- clients' calls, oldest first, and the connection of the layer's own driver call, if one is under way.
pub record Core : Type 0 where
  pub past : List Event
  pub trimmed : ℕ
  pub flights : List Flight
  pub chore : Option ℕ

-- Returns the client's unfinished call, if there is one.
abbrev pub unfinished_of : List Event → ℕ → Option ℕ
unfinished_of past client = cond (is_busy client past) (Some (call_of past client)) None

-- Is true if the client has an unfinished call with no driver call under way.
abbrev pub is_parked : Core → ℕ → Bool
is_parked core client = is_busy client core.past && not (is_in_flight (call_of core.past client) core.flights)

-- Returns why call n can't move, if it has no driver call under way and can't move.
abbrev pub blocked_call : List Event → List Flight → ℕ → Option Why
blocked_call past flights n = cond (is_in_flight n flights) None (why_blocked flights n (stand past n))

-- Returns why the client's unfinished call can't move, if it can't.
abbrev pub blocked_for : Core → ℕ → Option Why
blocked_for core client =
    cond (is_busy client core.past) (blocked_call core.past core.flights (call_of core.past client)) None

-- Returns the greatest length of a run before its end: its last step may begin just before it is full.
abbrev pub most_before_end : ℕ
most_before_end = most_events + events_of_a_step

-- Holds if a run that hasn't ended is at most one step past full, so that its end may come.
abbrev pub HasRoomForEnd : List Event → Type 0
HasRoomForEnd past = has_ended past ≡ false → length past ≤ most_before_end
