use Rattle.std.proofs.Common.{refl}
use Rattle.std.specs.Fmt.{digits}
use Rattle.dsql_cases_runs.proofs.ScriptOnLiterals.{script_on_literals}
use Rattle.dsql_cases_runs.proofs.generated.generated_lines_are_read.Goals as goal

pub returns : goal.returns
unfolding script_on_literals digits
returns c = record { block = refl; blocks = refl }
