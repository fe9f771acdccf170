use Rattle.dsql_player_wires.proofs.Asking.{wire_fits, performed_fits, performed_told, performed_tells}
use Rattle.dsql_player_wires.proofs.laws.an_answer_keeps_the_wires.Goals as goal

pub returns-clause-fits : goal.returns-clause-fits
returns-clause-fits g c = λ telling p e past ws is fit fits. wire_fits g.W.Wire.told telling past p e ws fit is fits

pub returns-clause-wires : goal.returns-clause-wires
returns-clause-wires g c = performed_fits g.W.Wire.told

pub returns-clause-told : goal.returns-clause-told
returns-clause-told g c = performed_told

pub returns-clause-tells : goal.returns-clause-tells
returns-clause-tells g c = performed_tells g.W.Wire.told
