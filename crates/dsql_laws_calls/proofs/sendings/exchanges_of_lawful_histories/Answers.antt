use Rattle.dsql_laws_calls.proofs.Exchanged.{made_lent, line_made}
use Rattle.dsql_laws_calls.proofs.sendings.exchanges_of_lawful_histories.Goals as goal

pub returns-clause-kept : goal.returns-clause-kept
returns-clause-kept c = made_lent

pub returns-clause-next : goal.returns-clause-next
returns-clause-next c = line_made
