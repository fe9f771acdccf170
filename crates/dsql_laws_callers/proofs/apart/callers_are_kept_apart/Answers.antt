use Rattle.dsql_laws_callers.proofs.KeptApart.{uses_its_own, sends_to_its_own, owner_of_transaction, stays_inside, layer_comes_last}
use Rattle.dsql_laws_callers.proofs.apart.callers_are_kept_apart.Goals as goal

pub returns-clause-sender : goal.returns-clause-sender
returns-clause-sender c = uses_its_own

pub returns-clause-transaction : goal.returns-clause-transaction
returns-clause-transaction c = owner_of_transaction

pub returns-clause-inside : goal.returns-clause-inside
returns-clause-inside c = stays_inside

pub returns-clause-layer : goal.returns-clause-layer
returns-clause-layer c = layer_comes_last

pub returns-clause-outside : goal.returns-clause-outside
returns-clause-outside c = sends_to_its_own
