-- What a client's step says of the hall before and after it.
use Rattle.std.specs.Prelude.{ℕ, ◌≡◌, ◌≢◌, ◌<◌, ◌⊎◌, ◌||◌, ◌+◌, ◌∷◌, Bool, true, false, List, length, set, Option, None, Some, is_none, is_some}
use Rattle.dsql_engine_laws.specs.journal.declared.entry.Permit.{Permit}
use Rattle.dsql_engine_laws.specs.journal.Readers.{is_empty}
use Rattle.dsql_engine_laws.specs.history.Readers.Calls.{is_busy}
use Rattle.dsql_engine_laws.specs.history.Readers.Clients.{call_of, made_by}
use Rattle.dsql_engine_laws.specs.laws_ends.Over.{may_move}
use Rattle.dsql_engine_laws.specs.follows.Moments.{Moment}
use Rattle.dsql_engine_laws.specs.wire.Journaled.{Journaled}
use Rattle.dsql_player_wires.specs.Seats.{seat}
use Rattle.dsql_player_wires.specs.WiresFit.{slot}
use Rattle.dsql_player.specs.Playing.{IsAt, Playing}
use Rattle.dsql_player.specs.Stepping.{IsEntryOf, TakesStep, Wakes}
use Rattle.dsql_hall_steps.specs.declared.step.Step.{Step}
use Rattle.dsql_hall_steps.specs.declared.step.Step.TheVariants.{Again, Go, Over, Wait}
use Rattle.dsql_hall_steps.specs.Errands.{Sent}
use Rattle.dsql_hall_steps.specs.Halls.{InHall}

-- Holds if this errand of the client's call went out of the hall, with its wire, and nothing else changed.
pub record GoesOut {W : Type 0} (me : ℕ) (it : Sent W) (before after : InHall W) : Type 0 where
  pub client : it.client ≡ me
  pub of_a_call : it.work.permit.call_no ≢ 0
  pub leave : (seat before.player.seats me).permit ≡ Some it.work.permit
  pub wire : slot before.slots it.work.conn ≡ Some it.wire
  pub only : after ≡ record before {
    slots = set before.slots it.work.conn None;
    out = it.work ∷ before.out;
    away = before.away + 1;
  }

-- Holds if the player took one step of this client: a line of the client entered, or its call was woken.
abbrev pub EntersOrWakes : ℕ → Playing → Playing → Type 0
EntersOrWakes me before after =
    ((m : Moment) → IsAt m before → TakesStep m before after (IsEntryOf me))
    ⊎ ((shows : Bool) × ((m : Moment) → IsAt m before → Wakes shows m (call_of before.past me) before after))

-- Holds if the client took a step, and nothing else changed. It entered a line, or its call was woken. The history
-- shows it, or the client has leave for its driver call. No other client made a call.
pub record StepsOnce {W : Type 0} (me : ℕ) (before after : InHall W) : Type 0 where
  pub runs : after.stopped ≡ None
  pub only : after ≡ record before { player = after.player }
  pub its : EntersOrWakes me before.player after.player
  pub mine : (other : ℕ) → other ≢ me → made_by after.player.past other ≡ made_by before.player.past other
  pub step : (length before.player.past < length after.player.past)
      ⊎ (is_some (seat after.player.seats me).permit ≡ true)

-- Is true if there is a permit, and the wire of its connection is out.
abbrev pub lacks_wire : {W : Type 0} → Option Permit → List (Option (Journaled W)) → Bool
lacks_wire None slots = false
lacks_wire (Some permit) slots = is_none (slot slots permit.conn)

-- Holds if nothing changed, and the client's call has to wait. It has leave for a driver call whose wire is out, or it
-- has no leave and may not move.
pub record HasToWait {W : Type 0} (me : ℕ) (before after : InHall W) : Type 0 where
  pub same : after ≡ before
  pub runs : before.stopped ≡ None
  pub busy : is_busy me before.player.past ≡ true
  pub why : (lacks_wire (seat before.player.seats me).permit before.slots ≡ true)
      ⊎ ((is_some (seat before.player.seats me).permit ≡ false)
      × (may_move before.player.past before.player.flights (call_of before.player.past me) ≡ false))

-- Holds if nothing changed, since the run had stopped before or only the end is left.
pub record IsStill {W : Type 0} (before after : InHall W) : Type 0 where
  pub same : after ≡ before
  pub why : is_some before.stopped || before.resting ≡ true

-- Holds if the run stopped now, and its history is as it was.
pub record Stops {W : Type 0} (before after : InHall W) : Type 0 where
  pub runs : before.stopped ≡ None
  pub stopped : is_some after.stopped ≡ true
  pub past : after.player.past ≡ before.player.past
  pub only : after ≡ record before { player = after.player; stopped = after.stopped }

-- Holds if nothing changed, and the client has no call and no kept line.
pub record HasDone {W : Type 0} (me : ℕ) (before after : InHall W) : Type 0 where
  pub same : after ≡ before
  pub free : is_busy me before.player.past ≡ false
  pub entered : is_empty (seat before.player.seats me).kept ≡ true

-- Holds if nothing is left for the client to do: the run has stopped, only the end is left, or the client has done all.
abbrev pub IsOver : {W : Type 0} → ℕ → InHall W → InHall W → Type 0
IsOver me before after = IsStill before after ⊎ (Stops before after ⊎ HasDone me before after)

-- Says what a client's thread does next, after the hall let its client take a step.
abbrev pub DoesNext : {K W : Type 0} → ℕ → InHall W → InHall W → Step K W → Type 0
DoesNext me before after (Go it) = GoesOut me it before after
DoesNext me before after Again = StepsOnce me before after
DoesNext me before after Wait = HasToWait me before after
DoesNext me before after Over = IsOver me before after
