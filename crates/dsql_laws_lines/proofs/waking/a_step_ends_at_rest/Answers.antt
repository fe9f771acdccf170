use Rattle.dsql_laws_lines.proofs.waking.a_step_ends_at_rest.Goals as goal
use Rattle.dsql_laws_steps.proofs.AddedUp.{rests_then}

pub returns : goal.returns
returns c = rests_then
