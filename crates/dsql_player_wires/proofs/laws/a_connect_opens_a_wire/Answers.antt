use Rattle.dsql_player_wires.proofs.Asking.{connect_fits, connected_fits, connected_tells}
use Rattle.dsql_player_wires.proofs.laws.a_connect_opens_a_wire.Goals as goal

pub returns-clause-fits : goal.returns-clause-fits
returns-clause-fits g c = λ p e past nothing a. connect_fits past p e nothing a

pub returns-clause-wires : goal.returns-clause-wires
returns-clause-wires g c = connected_fits g.W.Wire.told

pub returns-clause-tells : goal.returns-clause-tells
returns-clause-tells g c = connected_tells g.W.Wire.told
