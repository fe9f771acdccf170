use Rattle.dsql_script_generator.proofs.Examples.{worked_counts}
use Rattle.dsql_script_generator.proofs.laws.worked_counts.Goals as goal

pub returns : goal.returns
returns c = worked_counts
