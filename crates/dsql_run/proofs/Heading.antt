-- What was read of a script, line by line. The argument bounds the lines that are still to be read.
use Rattle.std.proofs.Common.{◌≡◌, ℕ, ◌+◌, ◌-◌, ◌<◌, ◌≤◌, arith, Option, Some, None, ap}
use Rattle.std.specs.Prelude.{Ok, IfSome}
use Rattle.dsql_run_outcome.specs.script_reader.declared.script.ScriptLine.{ScriptLine}
use Rattle.dsql_run_outcome.specs.script_reader.declared.script.Head.TheVariants.{Begun}
use Rattle.dsql_run_outcome.specs.script_reader.ScriptHead.{Progress}
use Rattle.dsql_run_outcome.specs.script_reader.ScriptLines.{most_lines}
use Rattle.dsql_run_outcome.specs.script_source.Reading.{NoLine}

-- Returns 1 if there is a line, and 0 otherwise.
abbrev pub one_if : Option ScriptLine → ℕ
one_if None = 0
one_if (Some line) = 1

-- Each turn of the loop reads one more line or comes to the end, so what is left decreases.
pub fewer : (next : Option ScriptLine) (old new : Progress) → IfSome next (λ _. new.lines ≡ old.lines + 1) → IfSome next (λ _. new.lines ≤ most_lines) → NoLine (Ok next) old new
    → (10001 - new.lines) + one_if next < (10001 - old.lines) + 1
fewer None old new counted few stays = omega (arith, ap (λ (p : Progress). p.lines) stays)
fewer (Some line) old new counted few stays = omega (arith, counted, few)

pub always_headed : (next : Option ScriptLine) (place : Progress) → place.head ≡ Begun → IfSome next (λ _. place.head ≡ Begun)
always_headed None place is = tt
always_headed (Some line) place is = is
