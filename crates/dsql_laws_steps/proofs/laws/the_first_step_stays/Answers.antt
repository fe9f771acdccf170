use Rattle.dsql_laws_steps.proofs.Turns.{first_stays}
use Rattle.dsql_laws_steps.proofs.laws.the_first_step_stays.Goals as goal

pub returns : goal.returns
returns c = first_stays
