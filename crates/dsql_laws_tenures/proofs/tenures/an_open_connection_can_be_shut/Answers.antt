use Rattle.dsql_laws_tenures.proofs.TenureQuiet.{may_follow-shut}
use Rattle.dsql_laws_tenures.proofs.tenures.an_open_connection_can_be_shut.Goals as goal

pub returns : goal.returns
returns c = may_follow-shut
