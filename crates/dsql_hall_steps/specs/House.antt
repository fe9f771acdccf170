-- What the house knows of its steps, and of a hall that it closes.
use Rattle.std.specs.Prelude.{ℕ, ◌≡◌, ◌<◌, ◌==◌, Bool, true, false, cond, List, [], ◌∷◌, Option, Some, None, IfSome, is_some}
use Rattle.dsql_engine_laws.specs.driver.Kinds.{is_shut}
use Rattle.dsql_engine_laws.specs.driver.Wires.{FleetTold, WireTold, connected_after, retired_after}
use Rattle.dsql_engine_laws.specs.journal.declared.entry.Entry.{Entry}
use Rattle.dsql_engine_laws.specs.history.declared.event.Control.{Control}
use Rattle.dsql_engine_laws.specs.history.declared.event.Event.{Event}
use Rattle.dsql_engine_laws.specs.history.Readers.Journals.{journal}
use Rattle.dsql_engine_laws.specs.wire.Journaled.{Journaled}
use Rattle.dsql_engine_laws.specs.wire.Told.{TellsOf}
use Rattle.dsql_player_wires.specs.Made.{Made, aside_on, no_aside}
use Rattle.dsql_player_wires.specs.Told.{fleet_told, with_told}
use Rattle.dsql_player_wires.specs.WiresFit.{PlansFit, WiresFit}
use Rattle.dsql_player.specs.declared.halt.Halt.{Halt}
use Rattle.dsql_player.specs.declared.halt.Halt.TheVariants.{Memory}
use Rattle.dsql_player.specs.Playing.{IsAt, IsReady, Playing}
use Rattle.dsql_hall_bonds.specs.Work.{Work}
use Rattle.dsql_hall_bonds.specs.Unpicked.{no_permit}
use Rattle.dsql_hall_steps.specs.Halls.{InHall, house}
use Rattle.dsql_hall_steps.specs.Racing.{resting}
use Rattle.dsql_hall_steps.specs.Terms.{Terms}

-- Holds of the work of the house's own bond. No connection has its number, so nothing was heard there, and no fault was
-- planned.
pub record IsOwn (made : List Made) (work : Work) : Type 0 where
  pub conn : work.conn ≡ house
  pub silent : journal work.past house ≡ []
  pub unplanned : aside_on made house ≡ no_aside

-- Returns the work of the house's own bond at this history. It is no driver call, so its permit is that of none.
abbrev pub own_work : List Event → Work
own_work past = record { conn = house; permit = no_permit; past = past }

-- Returns the hall of a race whose threads haven't started. The house's own work is out.
abbrev pub first_hall : {W : Type 0} → Playing → List (Option (Journaled W)) → List Control → InHall W
first_hall p slots settings = record {
  player = p;
  slots = slots;
  out = own_work p.past ∷ [];
  away = 1;
  settings = settings;
  stopped = None;
  chore = None;
  resting = false;
}

-- Returns what stopped a run, of which so much work is out at its end. The house's own is one. More than that stops a
-- run that nothing stopped, for want of memory.
abbrev pub stopped_by : Option Halt → ℕ → Option Halt
stopped_by (Some halt) away = Some halt
stopped_by None away = cond (away == 1) None (Some Memory)

-- Holds of the parts that are left of a hall.
pub record HasParts {W : Type 0} (h : InHall W) (p : Playing) (slots : List (Option (Journaled W)))
    (settings : List Control) (stopped : Option Halt) : Type 0 where
  pub player : p ≡ h.player
  pub wires : slots ≡ h.slots
  pub limits : settings ≡ h.settings
  pub stop : stopped ≡ stopped_by h.stopped h.away

-- Holds of the work of a connection that the layer shuts.
pub record IsShutting (work : Work) : Type 0 where
  pub number : work.conn < house
  pub layer : work.permit.call_no ≡ 0
  pub shuts : is_shut work.permit.call ≡ true

-- Holds if the control comes first among these, and the others after it.
pub record ComesFirst (control : Control) (settings later : List Control) : Type 0 where
  pub is : settings ≡ control ∷ later

-- Holds if the fleet's record of the earlier history, and then of this answer to a Connect, is that of the later
-- history.
abbrev pub TellsConnect : List Made → List Event → List Event → Entry → Type 0
TellsConnect made before after e =
    (first : Option FleetTold) → with_told made first after
    ≡ connected_after e.conn e.answer (with_told made first before)

-- Holds if the fleet's record goes on from the earlier history to the later one, in which the wire's connection was
-- shut. It has this wire more. If the wire keeps a record, that is its journal. It keeps one if the fleet does.
abbrev pub TellsShut : {W : Type 0} → (W → Option WireTold) → Bool → List Made → List Event → List Event → Journaled W
    → Type 0
TellsShut heard telling made before after wire =
    (first : Option FleetTold) → (is_some first ≡ true → telling ≡ true)
    → IfSome (heard wire.wire) (TellsOf wire.conn wire.journal)
    → with_told made first after ≡ retired_after wire.conn (heard wire.wire) (with_told made first before)

-- Holds of a hall that is closed, in which all work but the house's own is back. Wires and history fit, and the fleet
-- has been asked nothing since the history of the house's bond.
pub record IsClosed {W : Type 0} (heard : W
    → Option WireTold) (race : Terms) (own : List Event) (p : Playing)
    (slots : List (Option (Journaled W))) : Type 0 where
  pub ready : IsReady p
  pub at : IsAt (resting race.lines p) p
  pub wires : WiresFit heard race.telling p.past slots
  pub plans : PlansFit heard race.made p.past slots
  pub told : fleet_told race.made p.past ≡ fleet_told race.made own
