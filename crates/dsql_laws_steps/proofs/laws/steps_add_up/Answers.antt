use Rattle.dsql_laws_steps.proofs.AddedUp.{no_steps, one_more, steps_made}
use Rattle.dsql_laws_steps.proofs.laws.steps_add_up.Goals as goal

pub returns-clause-none : goal.returns-clause-none
returns-clause-none c = no_steps

pub returns-clause-more : goal.returns-clause-more
returns-clause-more c = one_more

pub returns-clause-made : goal.returns-clause-made
returns-clause-made c = steps_made
