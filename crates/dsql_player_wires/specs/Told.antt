-- What wires and a fleet record of a history. All of it follows from what was heard.
use Rattle.std.specs.Prelude.{ℕ, ◌+◌, ◌≡◌, Bool, true, false, cond, List, [], ◌∷◌, ◌++◌, map, length, Option, Some, None, is_some, option_map}
use Rattle.dsql_history.specs.driver.Kinds.{is_connect, is_shut}
use Rattle.dsql_history.specs.driver.Wires.{WireTold, FleetTold, WirePlanMade, with_connects, with_retired, retired_after}
use Rattle.dsql_history.specs.driver.declared.wire.Fleet.{Ghosts}
use Rattle.dsql_history.specs.journal.declared.entry.Entry.{Entry}
use Rattle.dsql_history.specs.declared.event.Event.{Event}
use Rattle.dsql_history.specs.declared.event.Event.TheVariants.{Heard}
use Rattle.dsql_history.specs.Readers.Journals.{journal}
use Rattle.dsql_wire.specs.Told.{told_of}
use Rattle.dsql_wire.specs.Journaled.{Journaled}
use Rattle.dsql_player_wires.specs.Made.{Aside, Made, aside_on, fleet_plans, fleet_wants}
use Rattle.dsql_player_wires.specs.WiresFit.{PlansFit}

-- Is true if the event hears no driver's answer. It changes no wire, and nothing that a fleet records.
abbrev pub hears_nothing : Event → Bool
hears_nothing (Heard e) = false
hears_nothing _ = true

-- Returns the record of the wire of connection c, with the calls of this journal, and with this beside them.
abbrev pub tells_of : ℕ → Aside → List Entry → WireTold
tells_of c aside entries = record { number = c; calls = told_of entries; plans = aside.plans; wanted = aside.wanted }

-- Returns a fleet's record after this entry of a connection, whose wire has these plans and wants. A Connect is added
-- with its answer. A Shut adds the wire that was shut, whatever the answer was. No other call adds anything.
abbrev pub with_heard : Aside → Entry → List Entry → FleetTold → FleetTold
with_heard aside e before told =
    cond (is_connect e.call) (with_connects ((e.conn, e.answer) ∷ []) told)
    (cond (is_shut e.call) (with_retired ((e.conn, tells_of e.conn aside (e ∷ before)) ∷ []) told) told)

-- Returns the record of a fleet with these plans and wants. The fleet was asked for the Connects of the history. It was
-- given back the wires of the shut connections. Both are in their order. A refused Connect has no wire. A connection
-- that was shut is gone with the next event, and its wire has no more plans and wants.
abbrev pub fleet_told : List Made → List Event → FleetTold
fleet_told made [] = record { connects = []; plans = fleet_plans made; retired = []; wanted = fleet_wants made }
fleet_told made (Heard e ∷ before) =
    with_heard (aside_on made e.conn) e (journal before e.conn) (fleet_told made before)
fleet_told made (_ ∷ before) = fleet_told made before

-- Returns a plan that was made after so many more Connects.
abbrev pub behind : ℕ → WirePlanMade → WirePlanMade
behind connects made = (connects + made.0, made.1)

-- Returns the record of a fleet that first recorded one thing, and was then asked for more.
abbrev pub told_then : FleetTold → FleetTold → FleetTold
told_then more first = record {
  connects = first.connects ++ more.connects;
  plans = first.plans ++ map (behind (length first.connects)) more.plans;
  retired = first.retired ++ more.retired;
  wanted = first.wanted ++ more.wanted;
}

-- Returns the record of a fleet after this history and these plans and wants, if it recorded `told` as the history
-- began.
abbrev pub with_told : List Made → Option FleetTold → List Event → Option FleetTold
with_told made told past = option_map (told_then (fleet_told made past)) told

-- Holds if the fleet records exactly this history and these plans and wants, after what it recorded as the history
-- began. Each wire records its part.
pub record TellsJust {W : Type 0} (heard : W
    → Option WireTold) (made : List Made) (told now : Option FleetTold) (past : List Event)
    (slots : List (Option (Journaled W))) : Type 0 where
  pub fleet : now ≡ with_told made told past
  pub wires : PlansFit heard made past slots

-- Holds if a fleet that recorded exactly the old history records exactly the new one and these further plans and wants.
-- Then the wires do too.
abbrev pub TellsOn : {W : Type 0} → (W → Option WireTold) → List Made → Option FleetTold → Option FleetTold
    → List Event → List Event → List (Option (Journaled W)) → List (Option (Journaled W)) → Type 0
TellsOn heard more before after old new slots now =
    (made : List Made) (told : Option FleetTold) → TellsJust heard made told before old slots
    → TellsJust heard (more ++ made) told after new now

-- The same of the fleet alone, with no further plans and wants.
abbrev pub FleetTellsOn : {W : Type 0} → (W → Option WireTold) → Option FleetTold → Option FleetTold → List Event
    → List Event → List (Option (Journaled W)) → Type 0
FleetTellsOn heard before after old new slots =
    (made : List Made) (told : Option FleetTold) → TellsJust heard made told before old slots
    → after ≡ with_told made told new

-- Holds if the fleet is asked for each Connect that is heard and given back each wire that is shut. These further plans
-- and wants come.
pub record FleetTells {W : Type 0} (heard : W
    → Option WireTold) (more : List Made) (before after : Option FleetTold) (old new : List Event)
    (slots now : List (Option (Journaled W))) : Type 0 where
  pub told : TellsOn heard more before after old new slots now
  pub telling : is_some after ≡ is_some before

-- Returns the fleet's record after the wire of a slot, if the slot has one, was given back.
abbrev pub retired_slot : {W : Type 0} → (W → Option WireTold) → ℕ → Option (Journaled W) → Option FleetTold
    → Option FleetTold
retired_slot tells number None before = before
retired_slot tells number (Some wire) before = retired_after number (tells wire.wire) before

-- The same for a list of slots, from the last slot to the first. The list has the last slot first.
abbrev pub retired_from : {W : Type 0} → (W → Option WireTold) → List (Option (Journaled W)) → Option FleetTold
    → Option FleetTold
retired_from tells [] before = before
retired_from tells (wire ∷ lower) before = retired_from tells lower (retired_slot tells (length lower) wire before)

-- Holds if what the fleet can do, and what it was asked for last, stays the same.
pub record SameAbility {F W : Type 0} (fleet : Ghosts F W) (before after : F) : Type 0 where
  pub ability : fleet.ability after ≡ fleet.ability before
  pub preferred : fleet.preferred after ≡ fleet.preferred before
