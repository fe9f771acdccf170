use Rattle.dsql_wire.proofs.Opens.{only_connects}
use Rattle.dsql_wire.proofs.laws.only_a_connect_opens.Goals as goal

pub returns : goal.returns
returns c = only_connects
