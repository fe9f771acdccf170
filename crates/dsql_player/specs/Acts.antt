-- What the acts of a player leave, and how far it has come with a line.
use Rattle.std.specs.Prelude.{ℕ, ◌≡◌, ◌≢◌, ◌<◌, ◌≤◌, true, false, List, [], ◌∷◌, ◌++◌, length, None}
use Rattle.dsql_engine_laws.specs.journal.declared.entry.Entry.{Entry}
use Rattle.dsql_engine_laws.specs.journal.declared.entry.Permit.{Permit}
use Rattle.dsql_engine_laws.specs.tenure.Judged.{answered}
use Rattle.dsql_engine_laws.specs.driver.declared.caps.Caps.{Caps}
use Rattle.dsql_engine_laws.specs.history.declared.event.Event.{Event}
use Rattle.dsql_engine_laws.specs.history.declared.event.Event.TheVariants.{Run}
use Rattle.dsql_engine_laws.specs.history.Rules.Flights.{is_in_flight}
use Rattle.dsql_engine_laws.specs.laws_ends.Over.{may_move}
use Rattle.dsql_engine_laws.specs.history.Rules.Settled.{Settled}
use Rattle.dsql_engine_laws.specs.history.Legal.{Lawful, Legal}
use Rattle.dsql_engine_laws.specs.follows.declared.line.Line.{Line}
use Rattle.dsql_engine_laws.specs.follows.Moments.{Moment}
use Rattle.dsql_laws_lines.specs.Running.{RunsOn, RunsToEnd}
use Rattle.dsql_engine_laws.specs.going.declared.next.Next.{Next}
use Rattle.dsql_engine_laws.specs.going.Reaching.{HasGoneOn}
use Rattle.dsql_engine_laws.specs.laws_steps.Groups.{after_heard, gone_on}
use Rattle.dsql_player_wires.specs.Seats.{Seat, seat}
use Rattle.dsql_player.specs.Playing.{IsAt, KeepsLines, Playing}
use Rattle.dsql_player.specs.Stepping.{RunsInTurn, leave_of}

-- Holds if each client has the permit that it had before.
pub record SamePermits (seats now : List Seat) : Type 0 where
  pub permit : (client : ℕ) → (seat now client).permit ≡ (seat seats client).permit
  pub many : length seats ≤ length now

-- Holds if each client but one has the permit that it had before.
pub record SamePermitsBut (me : ℕ) (seats now : List Seat) : Type 0 where
  pub permit : (client : ℕ) → client ≢ me → (seat now client).permit ≡ (seat seats client).permit
  pub many : length seats ≤ length now

-- Says what the client is handed, and that the others keep what they have.
pub record Hands (me : ℕ) (next : Next) (seats now : List Seat) : Type 0 where
  pub handed : (seat now me).permit ≡ leave_of next
  pub others : (client : ℕ) → client ≢ me → (seat now client).permit ≡ (seat seats client).permit
  pub room : me < length now
  pub many : length seats ≤ length now

-- Holds if the call n is woken and goes on by itself.
pub record Woken (n : ℕ) (next : Next) (before after : Playing) : Type 0 where
  pub settled : Settled before.past
  pub lawful : Lawful after.past
  pub parked : is_in_flight n before.flights ≡ false
  pub moves : may_move before.past before.flights n ≡ true
  pub past : after.past ≡ gone_on n before.past
  pub went : HasGoneOn after.past before.flights after.flights n next
  pub lines : KeepsLines before after

-- Holds if a line has begun: it has made its own step, if it has one.
pub record Begun (m : Moment) (line : Line) (old mid : Playing) : Type 0 where
  pub events : List Event
  pub now : Moment
  pub runs : RunsOn m line events now
  pub grows : mid.past ≡ events ++ old.past
  pub at : IsAt now mid

-- Says how far the script's end has come.
pub record ComesToEnd (m : Moment) (old mid : Playing) : Type 0 where
  pub events : List Event
  pub now : Moment
  pub runs : RunsToEnd m events now
  pub grows : mid.past ≡ events ++ old.past
  pub at : IsAt now mid

-- Holds if the player took in the answer to the layer's own call, which ends that call, and nothing else
-- changed.
pub record TakesAnswer (permit : Permit) (e : Entry) (before after : Playing) : Type 0 where
  pub heard : e ≡ answered permit e.answer
  pub layer : e.call_no ≡ 0
  pub past : after.past ≡ after_heard before.past e
  pub flights : after.flights ≡ before.flights
  pub chore : after.chore ≡ None
  pub seats : after.seats ≡ before.seats
  pub released : after.released ≡ before.released
  pub legal : Legal after.past

-- Holds if the player took steps in their turns, and is at the moment after them.
pub record RunsTo (m : Moment) (before after : Playing) : Type 0 where
  pub now : Moment
  pub runs : RunsInTurn m before.past after.past now
  pub at : IsAt now after

-- Returns a player of a run that has begun, whose clients have nothing at hand.
abbrev pub begun : ℕ → Caps → List Seat → Playing
begun version caps seats =
    record { past = Run version caps ∷ []; trimmed = 0; flights = []; chore = None; seats = seats; released = false }
