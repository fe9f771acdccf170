use Rattle.dsql_laws_tenures.proofs.Transactions.{begun_on, goes_on_alone, has_ended_alone, lent_alone, transaction_first, transaction_on}
use Rattle.dsql_laws_tenures.proofs.tenures.a_transaction_may_have_its_connection_alone.Goals as goal

pub returns : goal.returns
returns c = record { lent = lent_alone; goes_on = goes_on_alone; ended = has_ended_alone; first = transaction_first; sent = transaction_on; sent_on = begun_on }
