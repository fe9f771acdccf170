use Rattle.dsql_player_wires.proofs.Permits.{sent_wired}
use Rattle.dsql_player_wires.proofs.Asking.{wire_sends}
use Rattle.dsql_player_wires.proofs.laws.who_may_send_has_a_wire.Goals as goal

pub returns-clause-wired : goal.returns-clause-wired
returns-clause-wired g c = sent_wired

pub returns-clause-takes : goal.returns-clause-takes
returns-clause-takes g c = wire_sends g.W.Wire.told
