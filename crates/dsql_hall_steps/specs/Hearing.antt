-- What becomes of the hall as work comes back into it.
use Rattle.std.specs.Prelude.{ℕ, ◌≡◌, ◌≢◌, ◌-◌, ◌∷◌, true, List, set, length, Option, Some, None, is_some, unwrap_or}
use Rattle.dsql_engine_laws.specs.journal.declared.entry.Entry.{Entry}
use Rattle.dsql_engine_laws.specs.laws_steps.Groups.{after_heard}
use Rattle.dsql_engine_laws.specs.wire.Journaled.{Journaled}
use Rattle.dsql_player_wires.specs.WiresFit.{slot}
use Rattle.dsql_player.specs.declared.halt.Halt.TheVariants.{Memory}
use Rattle.dsql_hall_bonds.specs.Work.{Work, without}
use Rattle.dsql_hall_steps.specs.Halls.{InHall, house}
use Rattle.dsql_hall_steps.specs.House.{own_work}

-- Returns the hall after this work came back. It isn't out any more.
abbrev pub struck_off : {W : Type 0} → Work → InHall W → InHall W
struck_off work h = record h { out = without work.conn h.out; away = h.away - 1 }

-- Returns the hall after this work came back with its wire, which then lies in its slot.
abbrev pub brought_home : {W : Type 0} → Work → Journaled W → InHall W → InHall W
brought_home work wire h = record (struck_off work h) { slots = set h.slots work.conn (Some wire) }

-- Returns the hall whose run stops for want of memory, unless it has stopped.
abbrev pub without_memory : {W : Type 0} → InHall W → InHall W
without_memory h = record h { stopped = Some (unwrap_or h.stopped Memory) }

-- Holds if this is in the slot of connection c, and no other slot changed.
pub record FillsSlot {W : Type 0} (c : ℕ) (wire : Option (Journaled W))
    (before after : List (Option (Journaled W))) : Type 0 where
  pub here : slot after c ≡ wire
  pub others : (d : ℕ) → d ≢ c → slot after d ≡ slot before d
  pub many : length after ≡ length before

-- Holds of a hall to which work came home, and in which the answer isn't taken in. The run has stopped or stops now,
-- and nothing else changes.
pub record DropsAnswer {W : Type 0} (home after : InHall W) : Type 0 where
  pub only : after ≡ record home { stopped = after.stopped }
  pub still : is_some home.stopped ≡ true → after.stopped ≡ home.stopped

-- Holds of a hall to which a client's work came home, and which takes in the answer. The history goes on with it.
pub record TakesAnswerIn {W : Type 0} (e : Entry) (home after : InHall W) : Type 0 where
  pub only : after ≡ record home { player = after.player }
  pub heard : after.player.past ≡ after_heard home.player.past e

-- Holds of a hall to which work of the layer came home, and which takes in the answer. The history goes on with it, and
-- the house's bond is renewed.
pub record TakesChoreIn {W : Type 0} (e : Entry) (home after : InHall W) (bond : Work) : Type 0 where
  pub only : after ≡ record home { player = after.player; out = bond ∷ without house home.out; chore = None }
  pub heard : after.player ≡ record home.player { past = after_heard home.player.past e }
  pub own : bond ≡ own_work after.player.past
