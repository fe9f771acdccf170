-- The states of wires in memory, and what a fleet can do.
use Rattle.std.specs.Prelude.{◌≡◌, ℕ, ◌+◌, true, false, List, [], ◌∷◌, ◌++◌, length, Option, unwrap_or}
use Rattle.dsql_driver.specs.Wires.{WireTold, Plan, newly_told, with_call, with_plan, with_wanted}
use Rattle.dsql_driver.specs.declared.answer.DriverAnswer.{DriverAnswer}
use Rattle.dsql_driver.specs.declared.caps.Caps.{Caps}
use Rattle.dsql_driver.specs.declared.call.DriverCall.{DriverCall}
use Rattle.dsql_mem_calls.specs.Effect.{Effect, effect_unless}
use Rattle.dsql_mem_plans.specs.Faults.{faults_after}
use Rattle.dsql_mem_plans.specs.Fleets.{FleetState}
use Rattle.dsql_mem_plans.specs.Plans.{fault_at}
use Rattle.dsql_mem_store.specs.Entries.{Entries}
use Rattle.dsql_mem_session.specs.Session.{new_session}
use Rattle.dsql_mem_session.specs.declared.session.MemSession.{MemSession}

-- A wire: its session, its report, and how often it answered with a fault. And the faults that its fleet or its own
-- plans put in its calls' places, oldest first. All wires of a fleet share the map, so it is no part of a wire.
pub record WireState : Type 0 where
  pub session : MemSession
  pub told : WireTold
  pub planned : List Plan
  pub faults : ℕ

-- Returns a wire that has heard only its Connect, with what its fleet planned for it. Its session is new.
abbrev pub new_wire : ℕ → List Plan → WireState
new_wire number planned = record { session = new_session; told = newly_told number; planned = planned; faults = 0 }

-- Returns the fault that stands in the place of a wire's next call, if one does. The calls that the wire heard
-- come before it.
abbrev pub fault_in_place : WireState → DriverCall → Option DriverAnswer
fault_in_place wire call = fault_at (length wire.told.calls + 1) call wire.planned

-- Returns the effect of a wire's call on a map.
abbrev pub comes_of : Entries → WireState → DriverCall → Effect
comes_of store wire call = effect_unless (fault_in_place wire call) store wire.session call

-- Returns the wire after a call on a map.
abbrev pub after_call : Entries → WireState → DriverCall → WireState
after_call store wire call = let after = comes_of store wire call in
    record {
      session = after.session;
      told = with_call (call, after.answer) wire.told;
      planned = wire.planned;
      faults = faults_after wire.faults after.answer;
    }

-- Holds if the call was made on this map and has this answer, and the wire changed accordingly.
pub record CarriesOut (store : Entries) (call : DriverCall) (answer : DriverAnswer)
    (before after : WireState) : Type 0 where
  pub answered : answer ≡ (comes_of store before call).answer
  pub changed : after ≡ after_call store before call

-- Returns the wire after a call for which there was no memory. Only its report changes.
abbrev pub after_want : DriverCall → WireState → WireState
after_want call wire = record wire { told = with_wanted call wire.told }

-- Returns the wire after one more fault was planned on it.
abbrev pub after_plan : Plan → WireState → WireState
after_plan plan wire = record wire { told = with_plan plan wire.told; planned = wire.planned ++ plan ∷ [] }

-- Returns all capabilities except named parameters.
abbrev pub default_caps : Caps
default_caps =
    record {
      fast_exec = true;
      fast_query = true;
      begin_options = true;
      named = false;
      pinger = true;
      resetter = true;
      validator = true;
    }

-- Returns what the fleet's driver can do: what was asked for last, or otherwise what it can do by itself.
abbrev pub ability_of : FleetState → Caps
ability_of fleet = unwrap_or fleet.preferred.last default_caps
