-- Faults that are planned in place of the answers to driver calls.
use Rattle.std.specs.Prelude.{ℕ, ◌==◌, List, map, filter, reverse, find, Option, Some, None, option_map, option_and_then, if◌then◌else◌}
use Rattle.dsql_driver.specs.Fits.{fits_of}
use Rattle.dsql_driver.specs.Wires.{Plan, WirePlanMade}
use Rattle.dsql_driver.specs.declared.answer.DriverAnswer.{DriverAnswer}
use Rattle.dsql_driver.specs.declared.answer.DriverAnswer.TheVariants as answers
use Rattle.dsql_driver.specs.declared.call.DriverCall.{DriverCall}
use Rattle.dsql_driver.specs.declared.wire.Planned.{Planned}
use Rattle.dsql_driver.specs.declared.wire.Planned.TheVariants.{Bad, Fail, Invalid}

-- Returns the answer of a planned fault.
abbrev pub answer_planned : Planned → DriverAnswer
answer_planned Bad = answers.Bad
answer_planned (Fail text) = answers.Fail text
answer_planned Invalid = answers.Invalid

-- Returns what was planned last for driver call number nth. It replaces what was planned for it before.
abbrev pub planned_at : ℕ → List Plan → Option Planned
planned_at nth plans = option_map (λ plan. plan.1) (find (λ plan. plan.0 == nth) (reverse plans))

-- Returns the fault as an answer, if it fits the driver call.
abbrev pub fault_for : DriverCall → Planned → Option DriverAnswer
fault_for call what = if fits_of call (answer_planned what) then Some (answer_planned what) else None

-- Returns the fault that takes the place of driver call number nth, if there is one.
abbrev pub fault_at : ℕ → DriverCall → List Plan → Option DriverAnswer
fault_at nth call plans = option_and_then (fault_for call) (planned_at nth plans)

-- Returns a fleet's plans for the wire of this number.
abbrev pub plans_for : ℕ → List WirePlanMade → List Plan
plans_for number plans = map (λ made. made.1.1) (filter (λ made. made.1.0 == number) plans)
