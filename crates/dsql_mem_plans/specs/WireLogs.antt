-- What a wire keeps beside its session: its report, its planned faults and their count.
use Rattle.std.specs.Prelude.{ℕ, ◌+◌, List, [], ◌∷◌, ◌++◌, length, Option}
use Rattle.dsql_driver.specs.Wires.{WireTold, Plan, newly_told, with_call, with_plan, with_wanted}
use Rattle.dsql_driver.specs.declared.answer.DriverAnswer.{DriverAnswer}
use Rattle.dsql_driver.specs.declared.call.DriverCall.{DriverCall}
use Rattle.dsql_mem_plans.specs.Faults.{faults_after}
use Rattle.dsql_mem_plans.specs.Plans.{fault_at}

-- A wire's report, and how often the wire answered with a fault. And the faults that its fleet or its own plans put in
-- its calls' places, oldest first.
pub record WireLogState : Type 0 where
  pub told : WireTold
  pub planned : List Plan
  pub faults : ℕ

-- Returns the log of a wire that has heard only its Connect, with what its fleet planned for it.
abbrev pub new_wire_log : ℕ → List Plan → WireLogState
new_wire_log number planned = record { told = newly_told number; planned = planned; faults = 0 }

-- Returns the fault that stands in the place of a wire's next call, if one does. The calls that the wire heard come
-- before it.
abbrev pub fault_due : DriverCall → WireLogState → Option DriverAnswer
fault_due call log = fault_at (length log.told.calls + 1) call log.planned

-- Returns the log after the wire's next call had this answer.
abbrev pub with_answer : DriverCall → DriverAnswer → WireLogState → WireLogState
with_answer call answer log =
    record {
      told = with_call (call, answer) log.told;
      planned = log.planned;
      faults = faults_after log.faults answer;
    }

-- Returns the log after the wire's next call was answered Memory.
abbrev pub with_want : DriverCall → WireLogState → WireLogState
with_want call log = record log { told = with_wanted call log.told }

-- Returns the log after one more fault was planned on its wire.
abbrev pub with_planned : Plan → WireLogState → WireLogState
with_planned plan log = record log { told = with_plan plan log.told; planned = log.planned ++ plan ∷ [] }
