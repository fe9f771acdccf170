use Rattle.dsql_laws_once.proofs.Ended.{ended_at_most_once, ended_first}
use Rattle.dsql_laws_once.proofs.transactions.a_transaction_is_ended_once.Goals as goal

pub returns-clause-once : goal.returns-clause-once
returns-clause-once c = ended_at_most_once

pub returns-clause-again : goal.returns-clause-again
returns-clause-again c = ended_first
