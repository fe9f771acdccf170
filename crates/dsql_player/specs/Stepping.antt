-- The steps of a player, and what it does next.
use Rattle.std.specs.Prelude.{ℕ, ◌≡◌, ◌<◌, Bool, true, false, not, ◌&&◌, cond, List, ◌++◌, Option, Some, None, length}
use Rattle.dsql_engine_laws.specs.journal.declared.entry.Entry.{Entry}
use Rattle.dsql_engine_laws.specs.journal.declared.entry.Permit.{Permit}
use Rattle.dsql_engine_laws.specs.journal.Readers.{is_empty}
use Rattle.dsql_engine_laws.specs.history.declared.event.Event.{Event}
use Rattle.dsql_engine_laws.specs.history.declared.event.Event.TheVariants.{Entered, Heard, Ended}
use Rattle.dsql_engine_laws.specs.history.declared.event.Op.{Op}
use Rattle.dsql_engine_laws.specs.history.declared.event.Control.{Control}
use Rattle.dsql_engine_laws.specs.history.Readers.Calls.{is_busy}
use Rattle.dsql_engine_laws.specs.history.Readers.Clients.{call_of}
use Rattle.dsql_engine_laws.specs.history.Readers.Controls.{told_after}
use Rattle.dsql_engine_laws.specs.laws_ends.Over.{may_move}
use Rattle.dsql_engine_laws.specs.history.Rules.Flights.{without_flight}
use Rattle.dsql_engine_laws.specs.history.Rules.House.{chore_due}
use Rattle.dsql_engine_laws.specs.follows.Moments.{Moment, met, takes_permit}
use Rattle.dsql_engine_laws.specs.follows.Turns.{has_run_out, comes_in_turn}
use Rattle.dsql_engine_laws.specs.follows.Sentences.{enters_now, may_enter, passed, come_in_turn}
use Rattle.dsql_engine_laws.specs.laws_steps.Groups.{after_heard}
use Rattle.dsql_engine_laws.specs.laws_steps.Steps.{IsStep, stepped, goes_by_itself}
use Rattle.dsql_engine_laws.specs.laws_steps.Whole.{Steps}
use Rattle.dsql_engine_laws.specs.going.Reaching.{HasGoneOn}
use Rattle.dsql_engine_laws.specs.going.declared.next.Next.{Next}
use Rattle.dsql_engine_laws.specs.going.declared.next.Next.TheVariants.{Send}
use Rattle.dsql_player_wires.specs.declared.seats.KeptLine.{KeptLine}
use Rattle.dsql_player_wires.specs.Seats.{seat}
use Rattle.dsql_player.specs.Playing.{Playing, IsAt, KeepsLines, line_kept}

-- Returns the permit that a client gets, if it gets one.
abbrev pub leave_of : Next → Option Permit
leave_of (Send permit) = Some permit
leave_of _ = None

-- Holds if the player made one step of this kind from this moment. The kind speaks of the step's first event
-- and of the call whose step it is.
pub record TakesStep (m : Moment) (before after : Playing) (kind : Event → ℕ → Type 0) : Type 0 where
  pub first : Event
  pub call : ℕ
  pub events : List Event
  pub kind_is : kind first call
  pub step : IsStep m first call events
  pub grows : after.past ≡ events ++ before.past
  pub may : may_enter m first ≡ true
  pub at : IsAt (stepped m first call events) after

-- Holds if an answer to call n came, and the call went on with it. It names no moment, so it also holds after a
-- moment at which the driver call wasn't under way yet.
pub record HearsAnswer (n : ℕ) (before after : Playing) : Type 0 where
  pub entry : Entry
  pub next : Next
  pub number : entry.call_no ≡ n
  pub heard : after.past ≡ after_heard before.past entry
  pub went : HasGoneOn after.past (without_flight n before.flights) after.flights n next
  pub lines : KeepsLines before after

-- Kinds of steps.

-- Holds if one of the layer's own calls was answered, on this connection.
pub record IsChoreOn (conn : Option ℕ) (first : Event) (call : ℕ) : Type 0 where
  pub entry : Entry
  pub heard : first ≡ Heard entry
  pub of_the_layer : entry.call_no ≡ 0
  pub of_nobody : call ≡ 0
  pub on : conn ≡ Some entry.conn

-- Holds if a driver call of call n was answered.
pub record IsAnswerTo (n : ℕ) (first : Event) (call : ℕ) : Type 0 where
  pub entry : Entry
  pub heard : first ≡ Heard entry
  pub number : entry.call_no ≡ n
  pub of_it : call ≡ n

-- Holds if a call of the client entered.
pub record IsEntryOf (client : ℕ) (first : Event) (call : ℕ) : Type 0 where
  pub op : Op
  pub entered : first ≡ Entered client call op

-- Holds if call n went on by itself.
pub record IsOfItself (n : ℕ) (first : Event) (call : ℕ) : Type 0 where
  pub by_itself : goes_by_itself n first ≡ true
  pub of_it : call ≡ n

-- Holds if a limit or the present moment was set after this past.
pub record IsTold (past : List Event) (control : Control) (first : Event) (call : ℕ) : Type 0 where
  pub told : first ≡ told_after past control
  pub of_nobody : call ≡ 0

-- Holds if the run ended.
pub record IsEnd (first : Event) (call : ℕ) : Type 0 where
  pub ended : first ≡ Ended
  pub of_nobody : call ≡ 0

abbrev pub InTurn : Moment → Event → ℕ → Type 0
InTurn m first call = comes_in_turn m first ≡ true

-- What comes next.

-- Is true if the client may go on: it is free and has a kept line, or its call isn't held and may move.
abbrev pub goes : Playing → ℕ → Bool
goes p client =
    cond (is_busy client p.past) (not (seat p.seats client).held && may_move p.past p.flights (call_of p.past client))
    (not (is_empty (seat p.seats client).kept))

-- Holds if this is the first client that may go on.
pub record IsFirstToGo (p : Playing) (client : ℕ) : Type 0 where
  pub may : goes p client ≡ true
  pub first : (smaller : ℕ) → smaller < client → goes p smaller ≡ false

abbrev pub IsNext : Playing → Option ℕ → Type 0
IsNext p (Some client) = IsFirstToGo p client
IsNext p None = (client : ℕ) → goes p client ≡ false

-- Holds if the first of the layer's own calls was made, or if there is none and nothing was done.
abbrev pub MakesChore : Bool → Playing → Playing → Type 0
MakesChore true before after =
    (length before.past < length after.past)
    × ((m : Moment) → IsAt m before → TakesStep m before after (IsChoreOn (chore_due before.past)))
MakesChore false before after = (after ≡ before) × (chore_due before.past ≡ None)

-- Holds if a step was taken in its turn, or if nobody may go on and nothing was done.
abbrev pub GoesOn : Bool → Playing → Playing → Type 0
GoesOn true before after =
    (length before.past < length after.past) × ((m : Moment) → IsAt m before → TakesStep m before after (InTurn m))
GoesOn false before after =
    (after ≡ before) × (chore_due before.past ≡ None) × ((client : ℕ) → goes before client ≡ false)

-- Holds if the player took steps in their turns from this moment.
pub record RunsInTurn (m : Moment) (before after : List Event) (now : Moment) : Type 0 where
  pub events : List Event
  pub grows : after ≡ events ++ before
  pub steps : Steps m events now
  pub in_turn : come_in_turn (passed m events) ≡ true

-- Holds if the player ran on until nobody may go on.
pub record RunsOut (m : Moment) (before after : Playing) : Type 0 where
  pub now : Moment
  pub runs : RunsInTurn m before.past after.past now
  pub at : IsAt now after
  pub out : has_run_out now ≡ true

-- Holds if the player ran on until it had to stop.
pub record RunsSoFar (m : Moment) (before after : List Event) : Type 0 where
  pub now : Moment
  pub runs : RunsInTurn m before after now

-- Says what a woken call does. If its driver call is due, it gets a permit for that, which doesn't show;
-- otherwise it goes on by itself.
abbrev pub Wakes : Bool → Moment → ℕ → Playing → Playing → Type 0
Wakes true m n before after = TakesStep m before after (IsOfItself n)
Wakes false m n before after = (after.past ≡ before.past) × IsAt (takes_permit n m) after

-- Holds if a client's line was entered at its own place, or is kept.
abbrev pub Admits : Bool → Moment → ℕ → KeptLine → Playing → Playing → Type 0
Admits true m client line before after =
    TakesStep (met (line_kept client line) m) before after (IsEntryOf client) × (enters_now m client ≡ true)
Admits false m client line before after =
    IsAt (met (line_kept client line) m) after × (after.past ≡ before.past) × (enters_now m client ≡ false)
