use Rattle.dsql_laws_steps.proofs.Groups.{goes_on_by_one}
use Rattle.dsql_laws_steps.proofs.laws.a_call_that_goes_on_makes_one_step.Goals as goal

pub returns : goal.returns
returns c = goes_on_by_one
