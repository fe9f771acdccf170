use Rattle.dsql_laws_others.proofs.Asked.{asked_goes_on, asked_used}
use Rattle.dsql_laws_others.proofs.asking.who_asks_goes_on.Goals as goal

pub returns-clause-somewhere : goal.returns-clause-somewhere
returns-clause-somewhere c = asked_goes_on

pub returns-clause-used : goal.returns-clause-used
returns-clause-used c = asked_used
