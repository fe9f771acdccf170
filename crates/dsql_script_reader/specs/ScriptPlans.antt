-- Defines how the fault of a line that plans one is read. The fault takes the place of a driver's answer.
use Rattle.std.specs.Prelude.{ℕ, List, codes, if◌then◌else◌, Option, Some, None, Result, Ok, Err}
use Rattle.std.specs.Str.{bytes_eq}
use Rattle.dsql_history.specs.driver.declared.wire.Planned.{Planned}
use Rattle.dsql_history.specs.driver.declared.wire.Planned.TheVariants.{Bad, Fail, Invalid}
use Rattle.dsql_script_forms.specs.declared.fault.LineFault.{LineFault}
use Rattle.dsql_script_forms.specs.declared.fault.LineFault.TheVariants.{BadShape}
use Rattle.dsql_script_calls.specs.ScriptTexts.{TextReading, text_in}

-- A planned fault, or the fault for which its line is refused.
abbrev pub PlannedReading : Type 0
PlannedReading = Result Planned LineFault

abbrev pub failing : TextReading → PlannedReading
failing (Ok text) = Ok (Fail text)
failing (Err fault) = Err fault

-- Returns the planned fault of a line with an array. It is a failure, whose text the array holds.
abbrev pub planned_with : List ℕ → List ℕ → PlannedReading
planned_with what array = if bytes_eq what (codes "fail") then failing (text_in array) else Err BadShape

-- Returns the planned fault of a line without an array, by its word alone.
abbrev pub planned_alone : List ℕ → PlannedReading
planned_alone what =
    if bytes_eq what (codes "bad") then Ok Bad
    else if bytes_eq what (codes "invalid") then Ok Invalid
    else Err BadShape

-- Returns the planned fault by its word and the line's array.
abbrev pub planned_of : List ℕ → Option (List ℕ) → PlannedReading
planned_of what (Some array) = planned_with what array
planned_of what None = planned_alone what
