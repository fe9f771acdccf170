use Rattle.dsql_laws_calls.proofs.bounds.few_moves_are_owed.Goals as goal
use Rattle.dsql_laws_calls.proofs.Owed.{few_next, few_owed, few_given_back}

pub returns-clause-next : goal.returns-clause-next
returns-clause-next c = few_next

pub returns-clause-now : goal.returns-clause-now
returns-clause-now c = few_owed

pub returns-clause-given_back : goal.returns-clause-given_back
returns-clause-given_back c = few_given_back
