use Rattle.dsql_laws_tenures.proofs.TenureQuiet.{whole_when_bad, whole_when_ended}
use Rattle.dsql_laws_tenures.proofs.tenures.tenures_of_bad_connections_are_whole.Goals as goal

pub returns : goal.returns
returns c = record { ended = whole_when_ended; call = whole_when_bad }
