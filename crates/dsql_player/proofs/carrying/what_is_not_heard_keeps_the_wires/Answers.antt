use Rattle.dsql_player.proofs.Fitting.{fits_unheard, plans_unheard}
use Rattle.dsql_player.proofs.Hearing.{itself_quiet}
use Rattle.dsql_player.proofs.carrying.what_is_not_heard_keeps_the_wires.Goals as goal

pub returns-clause-itself : goal.returns-clause-itself
returns-clause-itself g c = itself_quiet

pub returns-clause-wires : goal.returns-clause-wires
returns-clause-wires g c = fits_unheard g.W.Wire.told

pub returns-clause-plans : goal.returns-clause-plans
returns-clause-plans g c = plans_unheard g.W.Wire.told
