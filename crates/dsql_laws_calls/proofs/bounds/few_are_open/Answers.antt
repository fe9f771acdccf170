use Rattle.dsql_laws_calls.proofs.bounds.few_are_open.Goals as goal
use Rattle.dsql_laws.specs.history.Readers.Pool.{pool}
use Rattle.dsql_laws.proofs.AtRest.{rests_owing_nothing}
use Rattle.dsql_laws_calls.proofs.Open.{few_open, few_idle}

pub returns-clause-open : goal.returns-clause-open
returns-clause-open c = few_open

pub returns-clause-idle : goal.returns-clause-idle
returns-clause-idle c = λ history l none. few_idle (pool history) (rests_owing_nothing history l none)
