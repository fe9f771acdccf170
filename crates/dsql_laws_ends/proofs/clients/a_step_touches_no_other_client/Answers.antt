use Rattle.dsql_laws_ends.proofs.Steps.{step_ended, step_its, step_made, step_others}
use Rattle.dsql_laws_ends.proofs.clients.a_step_touches_no_other_client.Goals as goal

pub returns-clause-others : goal.returns-clause-others
returns-clause-others c = step_others

pub returns-clause-its : goal.returns-clause-its
returns-clause-its c = step_its

pub returns-clause-made : goal.returns-clause-made
returns-clause-made c = step_made

pub returns-clause-ended : goal.returns-clause-ended
returns-clause-ended c = step_ended
