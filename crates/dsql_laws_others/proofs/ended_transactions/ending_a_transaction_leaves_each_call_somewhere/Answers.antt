use Rattle.dsql_laws_others.proofs.OutsideEnd.{due_outside}
use Rattle.dsql_laws_others.proofs.EndedTx.{each_after_end, used_after_end}
use Rattle.dsql_laws_others.proofs.ended_transactions.ending_a_transaction_leaves_each_call_somewhere.Goals as goal

pub returns-clause-others : goal.returns-clause-others
returns-clause-others c = each_after_end

pub returns-clause-used : goal.returns-clause-used
returns-clause-used c = used_after_end

pub returns-clause-due : goal.returns-clause-due
returns-clause-due c = λ history client n m op l ends apart away. due_outside history client n op m (record { lawful = l; ends = ends; apart = apart; away = away })
