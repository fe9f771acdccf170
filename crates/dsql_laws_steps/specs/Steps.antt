-- Defines one step of the layer's core, as the conditions on the parts of a script see it.
use Rattle.std.specs.Prelude.{◌≡◌, ℕ, ◌==◌, Bool, true, false, List, ◌∷◌, ◌++◌, Some}
use Rattle.dsql_laws.specs.journal.declared.entry.Entry.{Entry}
use Rattle.dsql_laws.specs.journal.declared.entry.Owner.{Owner}
use Rattle.dsql_laws.specs.journal.Kinds.{number_of}
use Rattle.dsql_laws.specs.pool.declared.conn.Place.TheVariants.{Lent}
use Rattle.dsql_laws.specs.pool.declared.moves.Move.TheVariants.{OpenStart, Lend, Back, CloseStart}
use Rattle.dsql_laws.specs.history.declared.event.Event.{Event}
use Rattle.dsql_laws.specs.history.declared.event.Event.TheVariants.{Heard, Pool, Waits, Replied}
use Rattle.dsql_laws.specs.history.Readers.Calls.{rests}
use Rattle.dsql_laws.specs.history.Readers.Pool.{place}
use Rattle.dsql_laws.specs.history.Rules.Flights.{permitted}
use Rattle.dsql_laws.specs.history.Rules.Stands.{stand}
use Rattle.dsql_follows.specs.Moments.{Moment, at_rest, landed, stepping, after_events}
use Rattle.dsql_follows.specs.Sentences.{passed, oldest, is_one_step}

-- Holds if the permit of the call that stepped last is already in flight, if one is due.
abbrev pub IsAtRest : Moment → Type 0
IsAtRest m = at_rest m ≡ m

-- Is true if call n goes on by itself with this event. It replies, waits, is lent a connection, or has one begin to be
-- opened for it. A connection that is given back also counts, since the event doesn't say by whom.
abbrev pub goes_by_itself : ℕ → Event → Bool
goes_by_itself n (Replied m reply) = m == n
goes_by_itself n (Waits m) = m == n
goes_by_itself n (Pool (Lend c tenure owner m)) = m == n
goes_by_itself n (Pool (OpenStart c m)) = m == n
goes_by_itself n (Pool (Back c)) = true
goes_by_itself n (Pool (CloseStart c cause)) = true
goes_by_itself n e = false

-- Returns the moment after a step of call n over these events, which begins with the first event.
abbrev pub stepped : Moment → Event → ℕ → List Event → Moment
stepped m first n events =
    record {
      past = events ++ m.past;
      stepper = n;
      flights = permitted n (stand (events ++ m.past) n) (landed first m.flights);
      lines = m.lines;
      released = m.released;
    }

-- Holds if these events, newest first, are one step of call n that begins with this event. Call 0 is the layer
-- or a line.
pub record IsStep (m : Moment) (first : Event) (n : ℕ) (events : List Event) : Type 0 where
  pub one : is_one_step (passed m events) ≡ true
  pub oldest : oldest (passed m events) ≡ Some (record { event = first; before = m; begins = true })
  pub now : after_events m events ≡ stepped m first n events

-- Holds if the history has one more step than the moment.
pub record MakesStep (m : Moment) (first : Event) (n : ℕ) (history : List Event) : Type 0 where
  pub events : List Event
  pub group : history ≡ events ++ m.past
  pub step : IsStep m first n events

-- Holds if call n went on by itself in one step.
pub record GoesByItself (m : Moment) (n : ℕ) (history : List Event) : Type 0 where
  pub first : Event
  pub itself : goes_by_itself n first ≡ true
  pub own : stepping m first ≡ n
  pub step : MakesStep m first n history

-- Holds if each call that rests with the connection of this answer is the answered call.
abbrev pub RestsAlone : List Event → Entry → Type 0
RestsAlone past e =
    (t : ℕ) (owner : Owner) → place past e.conn ≡ Some (Lent t owner) → rests (Heard e ∷ past) (number_of owner)
    ≡ true → number_of owner ≡ e.call_no
