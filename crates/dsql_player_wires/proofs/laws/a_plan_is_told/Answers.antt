use Rattle.dsql_player_wires.proofs.Planned.{plan_fits, plan_tells}
use Rattle.dsql_player_wires.proofs.laws.a_plan_is_told.Goals as goal

pub returns-clause-wires : goal.returns-clause-wires
returns-clause-wires g c = plan_fits g.W.Wire.told

pub returns-clause-tells : goal.returns-clause-tells
returns-clause-tells g c = plan_tells g.W.Wire.told
