-- Defines what a result is if memory may have run out.
use Rattle.std.specs.Prelude.{◌≡◌, ◌≢◌, Option, Some, None, Result, Ok, Err, MatchResult}
use Rattle.dsql_script_forms.specs.declared.fault.LineFault.{LineFault}
use Rattle.dsql_script_forms.specs.declared.fault.LineFault.TheVariants.{BadShape, Memory}

-- Holds if the result is what was found, or is a refusal for its shape if nothing was found, unless memory ran
-- out.
abbrev pub IsShaped : {A : Type 0} → Result A LineFault → Option A → Type 0
IsShaped result found =
    MatchResult result (λ x. found ≡ Some x) (λ fault. fault ≢ Memory → (fault ≡ BadShape) × (found ≡ None))

-- Holds if the result is this reading, or memory ran out.
abbrev pub IsReading : {A : Type 0} → Result A LineFault → Result A LineFault → Type 0
IsReading result reading = MatchResult result (λ x. reading ≡ Ok x) (λ fault. fault ≢ Memory → reading ≡ Err fault)

-- Holds if the result has no fault and none was found, or has the one that was found, or memory ran out.
abbrev pub IsFault : {A : Type 0} → Result A LineFault → Option LineFault → Type 0
IsFault result found = MatchResult result (λ _. found ≡ None) (λ fault. fault ≢ Memory → found ≡ Some fault)
