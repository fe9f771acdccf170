use Rattle.dsql_laws_calls.proofs.chores.the_layer_may_tidy_up.Goals as goal
use Rattle.dsql_laws_calls.proofs.Tidying.{closing_lent, ending_lent, tidied_where_lent, tidying_comes, unheld_once_ended}

pub returns-clause-rows : goal.returns-clause-rows
returns-clause-rows c = closing_lent

pub returns-clause-transaction : goal.returns-clause-transaction
returns-clause-transaction c = ending_lent

pub returns-clause-lent : goal.returns-clause-lent
returns-clause-lent c = tidied_where_lent

pub returns-clause-comes : goal.returns-clause-comes
returns-clause-comes c = tidying_comes

pub returns-clause-ended : goal.returns-clause-ended
returns-clause-ended c = λ history owner e l h layer lent due. tidying_comes history owner e layer lent (unheld_once_ended history e.conn l h) due
