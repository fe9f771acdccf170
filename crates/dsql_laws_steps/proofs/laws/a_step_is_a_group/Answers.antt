use Rattle.dsql_laws_steps.proofs.Later.{step_is_group}
use Rattle.dsql_laws_steps.proofs.laws.a_step_is_a_group.Goals as goal

pub returns : goal.returns
returns c = step_is_group
