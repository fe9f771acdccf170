-- What the steps of the layer's core require, and what they leave under way.
use Rattle.std.specs.Prelude.{◌≡◌, ◌<◌, ◌+◌, ◌==◌, ℕ, Bool, cond, true, false, List}
use Rattle.std.specs.List.{list_all}
use Rattle.dsql_laws_calls.specs.journal.Readers.{is_empty}
use Rattle.dsql_laws_calls.specs.history.declared.event.Event.{Event}
use Rattle.dsql_laws_calls.specs.history.declared.record.Flight.{Flight}
use Rattle.dsql_laws_calls.specs.history.Readers.Unfinished.{is_unfinished}
use Rattle.dsql_laws_calls.specs.history.Rules.Settled.{Settled}
use Rattle.dsql_laws_calls.specs.Bounds.{most_moves, most_given_back}
use Rattle.dsql_engine_pooling.specs.UnderWay.{UnderWay}
use Rattle.dsql_engine_going.specs.declared.next.Next.{Next}
use Rattle.dsql_engine_going.specs.declared.next.Next.TheVariants.{Quiet}
use Rattle.dsql_engine_going.specs.Reaching.{HasGoneOn}

-- Is true if each call with a driver call under way has no reply.
abbrev pub are_of_unfinished : List Event → List Flight → Bool
are_of_unfinished past flights = list_all (λ flight. is_unfinished past flight.call) flights

-- Returns the most events of a call that goes on by itself. It asks if it has to, gives back its connection, and
-- replies.
abbrev pub most_going_on : ℕ
most_going_on = 1 + (most_given_back + 1)

-- Returns the most events of a step. These are its first event, the moves it makes due, those after a connection is
-- given back, and those of a call that goes on.
abbrev pub events_of_a_step : ℕ
events_of_a_step = most_moves + (1 + most_given_back + most_going_on)

-- Holds if a step may begin.
pub record MayStep (past : List Event) (flights : UnderWay) : Type 0 where
  pub settled : Settled past
  pub begun : is_empty past ≡ false
  pub known : are_of_unfinished past flights.flights ≡ true
  pub spare : 0 < flights.spare

-- Holds if there is nothing to do, and nothing more is under way.
pub record Rests (before after : List Flight) (next : Next) : Type 0 where
  pub quiet : next ≡ Quiet
  pub same : after ≡ before

-- Holds if the call has gone on. The layer itself, as call 0, has nothing to do.
abbrev pub GoesOnOrRests : List Event → List Flight → List Flight → ℕ → Next → Type 0
GoesOnOrRests now before after n next =
    cond {A = Type 0} (n == 0) (Rests before after next) (HasGoneOn now before after n next)
