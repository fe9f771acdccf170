-- What a fleet keeps beside its database: what it was asked for, its report, and the count of its faults.
use Rattle.std.specs.Prelude.{ℕ, List, [], ◌∷◌, Option, None, if◌then◌else◌}
use Rattle.dsql_driver.specs.Fits.{is_memory}
use Rattle.dsql_driver.specs.Wires.{FleetTold, Plan, WirePlan, WireTold, Preferred, with_connects, with_retired, with_wanted_connect, with_wire_plan}
use Rattle.dsql_driver.specs.declared.answer.DriverAnswer.{DriverAnswer}
use Rattle.dsql_driver.specs.declared.call.DriverCall.TheVariants.{Connect}
use Rattle.dsql_mem_plans.specs.Faults.{faults_after}
use Rattle.dsql_mem_plans.specs.Plans.{fault_at, plans_for}

-- A fleet: the capabilities that it was asked for, its report, and how often it refused a Connect as Bad or
-- Fail.
pub record FleetState : Type 0 where
  pub preferred : Preferred
  pub told : FleetTold
  pub faults : ℕ

-- Returns a fleet that was asked for nothing.
abbrev pub new_fleet : FleetState
new_fleet =
    record {
      preferred = record { last = None; times = 0 };
      told = record { connects = []; plans = []; retired = []; wanted = [] };
      faults = 0;
    }

-- Returns the fleet after one more fault was planned.
abbrev pub after_wire_plan : WirePlan → FleetState → FleetState
after_wire_plan plan fleet = record fleet { told = with_wire_plan plan fleet.told }

-- Returns the fleet's plans for the wire with this number.
abbrev pub planned_for : ℕ → FleetState → List Plan
planned_for number fleet = plans_for number fleet.told.plans

-- Returns the fault that stands in the place of a wire's Connect, if one does.
abbrev pub connect_fault : ℕ → FleetState → Option DriverAnswer
connect_fault number fleet = fault_at 1 Connect (planned_for number fleet)

-- Returns the fleet after it answered a Connect otherwise than by Memory.
abbrev pub with_connect : ℕ → DriverAnswer → FleetState → FleetState
with_connect number answer fleet =
    record {
      preferred = fleet.preferred;
      told = with_connects ((number, answer) ∷ []) fleet.told;
      faults = faults_after fleet.faults answer;
    }

-- Returns the fleet after it answered a Connect Memory.
abbrev pub after_want : ℕ → FleetState → FleetState
after_want number fleet = record fleet { told = with_wanted_connect number fleet.told }

-- Returns the fleet after a Connect with this answer.
abbrev pub after_connect : ℕ → DriverAnswer → FleetState → FleetState
after_connect number answer fleet =
    if is_memory answer then after_want number fleet else with_connect number answer fleet

-- Returns the fleet after a wire was given back with this report.
abbrev pub after_retire : ℕ → WireTold → FleetState → FleetState
after_retire number told fleet = record fleet { told = with_retired ((number, told) ∷ []) fleet.told }
