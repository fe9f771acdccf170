use Rattle.dsql_laws_once.proofs.Begun.{begun_at_most_once, begun_first}
use Rattle.dsql_laws_once.proofs.transactions.a_transaction_is_begun_once.Goals as goal

pub returns-clause-once : goal.returns-clause-once
returns-clause-once c = begun_at_most_once

pub returns-clause-again : goal.returns-clause-again
returns-clause-again c = begun_first
