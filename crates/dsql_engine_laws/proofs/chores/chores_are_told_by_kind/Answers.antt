use Rattle.dsql_engine_laws.proofs.Placed.{told_by_kind}
use Rattle.dsql_engine_laws.proofs.chores.chores_are_told_by_kind.Goals as goal

pub returns-clause-connect : goal.returns-clause-connect
returns-clause-connect c = λ history c p is. let told = told_by_kind history c p is in told.connect

pub returns-clause-shut : goal.returns-clause-shut
returns-clause-shut c = λ history c p is. let told = told_by_kind history c p is in told.shut

pub returns-clause-tidy : goal.returns-clause-tidy
returns-clause-tidy c = λ history c p is. let told = told_by_kind history c p is in told.tidy
