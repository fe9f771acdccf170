-- A player, as contracts see it, and its state at a moment of its run.
use Rattle.std.specs.Prelude.{ℕ, ◌≡◌, ◌≢◌, ◌<◌, Bool, true, false, cond, List, ◌∷◌, map, length, Option, Some, None}
use Rattle.dsql_engine_laws.specs.journal.declared.entry.Permit.{Permit}
use Rattle.dsql_engine_laws.specs.history.declared.event.Event.{Event}
use Rattle.dsql_engine_laws.specs.history.declared.record.Flight.{Flight}
use Rattle.dsql_engine_laws.specs.history.Readers.Calls.{is_busy}
use Rattle.dsql_engine_laws.specs.history.Readers.Clients.{call_of}
use Rattle.dsql_engine_laws.specs.history.Rules.Flights.{is_in_flight}
use Rattle.dsql_engine_laws.specs.history.Legal.{Legal}
use Rattle.dsql_engine_laws.specs.follows.declared.line.Line.{Line}
use Rattle.dsql_engine_laws.specs.follows.declared.line.Line.TheVariants.{Client, Start}
use Rattle.dsql_engine_laws.specs.follows.Moments.{Moment, kept, is_held}
use Rattle.dsql_engine_laws.specs.follows.Sentences.{is_whole}
use Rattle.dsql_engine_laws.specs.laws_steps.Steps.{IsAtRest}
use Rattle.dsql_player_wires.specs.declared.seats.KeptLine.{KeptLine}
use Rattle.dsql_player_wires.specs.Seats.{Seat, seat}
use Rattle.dsql_engine_laws.specs.Leaves.{IsLeave}
use Rattle.dsql_engine_laws.specs.Turns.{Flying, flies}
use Rattle.dsql_laws_lines.specs.Running.{AllMade}
use Rattle.dsql_player.specs.Naming.{MakeOnce}

-- A player: the events that happened, newest first, and how many of the oldest were trimmed. What is under way, and
-- what each client has at hand. It also says whether the script is at its end, which releases the held calls.
pub record Playing : Type 0 where
  pub past : List Event
  pub trimmed : ℕ
  pub flights : List Flight
  pub chore : Option ℕ
  pub seats : List Seat
  pub released : Bool

-- Holds if a client with call n has exactly this permit: one for its driver call under way, or none if none is. If the
-- client has no call, n is 0.
abbrev pub FitsCall : List Event → List Flight → ℕ → Option Permit → Type 0
FitsCall past flights n None = is_in_flight n flights ≡ false
FitsCall past flights n (Some permit) =
    IsLeave past permit × (permit.call_no ≡ n) × (flies n permit.conn flights ≡ true)

-- Holds if what a client has at hand fits its call.
pub record SeatFits (past : List Event) (flights : List Flight) (seats : List Seat) (client : ℕ) : Type 0 where
  pub leave : FitsCall past flights (call_of past client) (seat seats client).permit
  pub room : is_busy client past ≡ true → client < length seats

-- Holds if no call is held after the script has come to its end.
abbrev pub HoldsNone : Playing → Type 0
HoldsNone p = p.released ≡ true → (client : ℕ) → (seat p.seats client).held ≡ false

-- Holds if calls and kept lines make each label at most once, and no call is held after the script has come to its end.
pub record LinesFit (p : Playing) : Type 0 where
  pub held : HoldsNone p
  pub named : MakeOnce (λ label. 0) p.past p.seats

-- Holds if the player may take a step. Its history is legal, and none of the layer's own driver calls is under
-- way. Clients have permits for exactly what is under way. No label is made twice. At the script's end no call is held.
pub record IsReady (p : Playing) : Type 0 where
  pub legal : Legal p.past
  pub free : p.chore ≡ None
  pub flying : Flying p.past p.flights
  pub seats : (client : ℕ) → SeatFits p.past p.flights p.seats client
  pub lines : LinesFit p

-- Returns a kept line as the script has it.
abbrev pub line_kept : ℕ → KeptLine → Line
line_kept client line = cond line.held (Start client line.op) (Client client line.op)

abbrev pub lines_kept : ℕ → List KeptLine → List Line
lines_kept client kept = map (line_kept client) kept

-- Holds if the player is at this free moment of its run.
pub record IsAt (m : Moment) (p : Playing) : Type 0 where
  pub past : m.past ≡ p.past
  pub flights : m.flights ≡ p.flights
  pub released : m.released ≡ p.released
  pub rest : IsAtRest m
  pub whole : is_whole m ≡ true
  pub made : AllMade m
  pub kept : (client : ℕ) → kept m client ≡ lines_kept client (seat p.seats client).kept
  pub held : (client : ℕ) → is_busy client p.past ≡ true → is_held m client ≡ (seat p.seats client).held

-- Holds if the player has the history, the kept lines and the held calls of this moment. What is under way may
-- differ.
pub record HasLinesOf (m : Moment) (p : Playing) : Type 0 where
  pub past : m.past ≡ p.past
  pub released : m.released ≡ p.released
  pub made : AllMade m
  pub kept : (client : ℕ) → kept m client ≡ lines_kept client (seat p.seats client).kept
  pub held : (client : ℕ) → is_busy client p.past ≡ true → is_held m client ≡ (seat p.seats client).held

-- Holds if the same lines are kept, the same calls are held, and the script is as far as before.
pub record KeepsLines (before after : Playing) : Type 0 where
  pub released : after.released ≡ before.released
  pub kept : (client : ℕ) → (seat after.seats client).kept ≡ (seat before.seats client).kept
  pub held : (client : ℕ) → (seat after.seats client).held ≡ (seat before.seats client).held

-- Holds if the player is at this free moment, except that a client's first kept line was taken from what it has at
-- hand.
pub record IsAtBut (m : Moment) (client : ℕ) (line : KeptLine) (p : Playing) : Type 0 where
  pub past : m.past ≡ p.past
  pub flights : m.flights ≡ p.flights
  pub released : m.released ≡ p.released
  pub rest : IsAtRest m
  pub whole : is_whole m ≡ true
  pub made : AllMade m
  pub taken : kept m client ≡ line_kept client line ∷ lines_kept client (seat p.seats client).kept
  pub kept : (other : ℕ) → other ≢ client → kept m other ≡ lines_kept other (seat p.seats other).kept
  pub held : (other : ℕ) → is_busy other p.past ≡ true → is_held m other ≡ (seat p.seats other).held
