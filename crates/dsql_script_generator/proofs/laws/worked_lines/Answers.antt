use Rattle.dsql_script_generator.proofs.Examples.{worked_lines}
use Rattle.dsql_script_generator.proofs.laws.worked_lines.Goals as goal

pub returns : goal.returns
returns c = worked_lines
