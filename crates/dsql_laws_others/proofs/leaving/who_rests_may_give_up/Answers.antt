use Rattle.dsql_laws_others.proofs.GivenUp.{gives_up}
use Rattle.dsql_laws_others.proofs.leaving.who_rests_may_give_up.Goals as goal

pub returns : goal.returns
returns c = gives_up
