use Rattle.dsql_player_wires.proofs.Asking.{wire_heard, gone_fits, gone_tells}
use Rattle.dsql_player_wires.specs.WiresFit.{slot}
use Rattle.dsql_player_wires.proofs.laws.a_shut_gives_the_wire_back.Goals as goal

pub returns-clause-there : goal.returns-clause-there
returns-clause-there g c = λ p e before mid h. wire_heard g.W.Wire.told e (slot before p.conn) (slot mid p.conn) h.noted

pub returns-clause-wires : goal.returns-clause-wires
returns-clause-wires g c = gone_fits g.W.Wire.told

pub returns-clause-tells : goal.returns-clause-tells
returns-clause-tells g c = gone_tells g.W.Wire.told
