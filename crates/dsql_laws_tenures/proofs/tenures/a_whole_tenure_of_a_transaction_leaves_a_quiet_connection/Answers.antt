use Rattle.dsql_laws_tenures.proofs.TenureQuiet.{quiet_again}
use Rattle.dsql_laws_tenures.proofs.tenures.a_whole_tenure_of_a_transaction_leaves_a_quiet_connection.Goals as goal

pub returns : goal.returns
returns c = quiet_again
