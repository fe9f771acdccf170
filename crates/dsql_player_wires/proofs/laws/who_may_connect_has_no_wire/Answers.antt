use Rattle.dsql_player_wires.proofs.Permits.{connect_unheard}
use Rattle.dsql_player_wires.proofs.Asking.{no_wire}
use Rattle.dsql_player_wires.proofs.laws.who_may_connect_has_no_wire.Goals as goal

pub returns-clause-unheard : goal.returns-clause-unheard
returns-clause-unheard g c = connect_unheard

pub returns-clause-none : goal.returns-clause-none
returns-clause-none g c = no_wire g.W.Wire.told
