use Rattle.dsql_laws_tenures.proofs.TenureQuiet.{alone_first, lent_first}
use Rattle.dsql_laws_tenures.proofs.tenures.a_quiet_connection_can_be_lent.Goals as goal

pub returns : goal.returns
returns c = record { alone = alone_first; transaction = lent_first }
