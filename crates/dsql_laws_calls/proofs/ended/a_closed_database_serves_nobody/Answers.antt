use Rattle.dsql_laws_calls.proofs.ended.a_closed_database_serves_nobody.Goals as goal
use Rattle.dsql_laws_calls.proofs.Closed.{closed_shut, opens_for_none, lends_while_open}

pub returns-clause-waits : goal.returns-clause-waits
returns-clause-waits c = λ history l h. let x = closed_shut history l h in x.waiting

pub returns-clause-opens : goal.returns-clause-opens
returns-clause-opens c = opens_for_none

pub returns-clause-lends : goal.returns-clause-lends
returns-clause-lends c = lends_while_open
