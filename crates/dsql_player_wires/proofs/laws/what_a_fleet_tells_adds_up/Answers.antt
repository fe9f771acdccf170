use Rattle.dsql_player_wires.proofs.Telling.{tells_then}
use Rattle.dsql_player_wires.proofs.laws.what_a_fleet_tells_adds_up.Goals as goal

pub returns : goal.returns
returns g c = record { then = tells_then g.W.Wire.told }
