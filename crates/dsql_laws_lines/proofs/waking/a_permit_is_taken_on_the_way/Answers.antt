use Rattle.dsql_laws_lines.proofs.Landed.{step_earlier, same_stepped}
use Rattle.dsql_laws_lines.proofs.waking.a_permit_is_taken_on_the_way.Goals as goal

pub returns-clause-step : goal.returns-clause-step
returns-clause-step c = step_earlier

pub returns-clause-now : goal.returns-clause-now
returns-clause-now c = same_stepped
