-- What the house does next, as the hall lets it take a step.
use Rattle.std.specs.Prelude.{ℕ, ◌≡◌, ◌≢◌, ◌⊎◌, ◌∷◌, ◌||◌, ◌+◌, true, false, [], None, Some, is_some}
use Rattle.dsql_engine_laws.specs.history.declared.event.Control.{Control}
use Rattle.dsql_engine_laws.specs.history.declared.event.Control.TheVariants.{Tick}
use Rattle.dsql_engine_laws.specs.history.Rules.House.{chore_due}
use Rattle.dsql_engine_laws.specs.follows.Moments.{Moment}
use Rattle.dsql_player_wires.specs.WiresFit.{slot}
use Rattle.dsql_player.specs.Playing.{IsAt}
use Rattle.dsql_player.specs.Stepping.{IsTold, TakesStep, goes}
use Rattle.dsql_hall_bonds.specs.Work.{Work}
use Rattle.dsql_hall_steps.specs.declared.chore.Chore.{Chore}
use Rattle.dsql_hall_steps.specs.declared.chore.Chore.TheVariants.{Again, Connect, Over, Shut, Wait}
use Rattle.dsql_hall_steps.specs.Halls.{InHall}
use Rattle.dsql_hall_steps.specs.House.{ComesFirst, IsShutting}
use Rattle.dsql_hall_steps.specs.Steps.{IsStill, Stops}

-- Holds if the first of the layer's own driver calls went out of the hall with this work, after all limits were set.
-- Its slot is empty from then on, and nothing else changed.
pub record TakesOut {W : Type 0} (work : Work) (before after : InHall W) : Type 0 where
  pub runs : before.stopped ≡ None
  pub set : before.settings ≡ []
  pub due : chore_due before.player.past ≡ Some work.conn
  pub empty : slot after.slots work.conn ≡ None
  pub others : (c : ℕ) → c ≢ work.conn → slot after.slots c ≡ slot before.slots c
  pub only : after ≡ record before {
    slots = after.slots;
    out = work ∷ before.out;
    away = before.away + 1;
    chore = Some work.conn;
  }

-- Holds if the house told the player this, in one step, and nothing else changed.
pub record TellsPlayer {W : Type 0} (control : Control) (before after : InHall W) : Type 0 where
  pub runs : after.stopped ≡ None
  pub only : after ≡ record before { player = after.player }
  pub tells : (m : Moment) → IsAt m before.player
      → TakesStep m before.player after.player (IsTold before.player.past control)

-- Holds if the first of the limits that were to come was set.
pub record SetsLimit {W : Type 0} (before after : InHall W) : Type 0 where
  pub control : Control
  pub first : ComesFirst control before.settings after.settings
  pub told : TellsPlayer control (record before { settings = after.settings }) after

-- Holds if nothing changed, and the house has to wait. Either a driver call of the layer is out. Or all limits were
-- set, the layer has no driver call to make, and a client may go on.
pub record HouseWaits {W : Type 0} (before after : InHall W) : Type 0 where
  pub same : after ≡ before
  pub runs : before.stopped ≡ None
  pub why : (is_some before.chore ≡ true)
      ⊎ ((before.settings ≡ [])
      × (chore_due before.player.past ≡ None)
      × ((client : ℕ) × (goes before.player client ≡ true)))

-- Holds if only the end is left: all limits were set, the layer has no driver call to make, and no client may go on.
pub record HasRunOut {W : Type 0} (before after : InHall W) : Type 0 where
  pub set : before.settings ≡ []
  pub none : chore_due before.player.past ≡ None
  pub nobody : (client : ℕ) → goes before.player client ≡ false
  pub only : after ≡ record before { resting = true }

-- Holds if the run stopped now, since there was no memory for a slot. The slots that there were didn't change.
pub record LacksSlot {W : Type 0} (before after : InHall W) : Type 0 where
  pub stops : Stops (record before { slots = after.slots }) after
  pub same : (c : ℕ) → slot after.slots c ≡ slot before.slots c

-- Holds if nothing is left for the house to do: the run has stopped, or only the end is left.
abbrev pub HouseIsOver : {W : Type 0} → InHall W → InHall W → Type 0
HouseIsOver before after =
    IsStill before after ⊎ (Stops before after ⊎ (LacksSlot before after ⊎ HasRunOut before after))

-- Says what the house does next, after the hall let it take a step.
abbrev pub HouseDoes : {K W : Type 0} → InHall W → InHall W → Chore K W → Type 0
HouseDoes before after (Connect work) = TakesOut work before after
HouseDoes before after (Shut it) =
    TakesOut it.work before after × IsShutting it.work × (slot before.slots it.work.conn ≡ Some it.wire)
HouseDoes before after Again = SetsLimit before after
HouseDoes before after Wait = HouseWaits before after
HouseDoes before after Over = HouseIsOver before after

-- Says what the hall does as the house sets the present moment. While the run goes on the player takes that one step.
-- If the run has stopped or only the end is left, nothing changes. A run that stops keeps its history.
pub record Ticks {W : Type 0} (now : ℕ) (before after : InHall W) : Type 0 where
  pub only : after ≡ record before { player = after.player; stopped = after.stopped }
  pub still : is_some before.stopped || before.resting ≡ true → after ≡ before
  pub stops : is_some after.stopped ≡ true → after.player.past ≡ before.player.past
  pub tells : after.stopped ≡ None → before.resting ≡ false → (m : Moment) → IsAt m before.player
      → TakesStep m before.player after.player (IsTold before.player.past (Tick now))
