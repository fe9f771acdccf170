use Rattle.dsql_laws_tenures.proofs.OwnHandles as own
use Rattle.dsql_laws_tenures.proofs.OwnLines.{live_is_owned, none_is_live, live_is_had}
use Rattle.dsql_laws_tenures.proofs.laws.what_is_live_is_of_a_line.Goals as goal

pub returns : goal.returns
returns c = record { each = live_is_owned; there = live_is_had; handles = own.live_is_had; none = none_is_live }
