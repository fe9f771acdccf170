use Rattle.dsql_engine_lines.proofs.Carries.{due_carries}
use Rattle.dsql_engine_lines.proofs.carried.what_is_due_carries_its_own_statement.Goals as goal

pub returns : goal.returns
returns c = due_carries
