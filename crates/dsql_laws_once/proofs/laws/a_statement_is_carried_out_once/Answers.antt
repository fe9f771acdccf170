use Rattle.dsql_laws_once.proofs.Carried.{carried_out_once, sent_first}
use Rattle.dsql_laws_once.proofs.laws.a_statement_is_carried_out_once.Goals as goal

pub returns-clause-once : goal.returns-clause-once
returns-clause-once c = carried_out_once

pub returns-clause-again : goal.returns-clause-again
returns-clause-again c = sent_first
