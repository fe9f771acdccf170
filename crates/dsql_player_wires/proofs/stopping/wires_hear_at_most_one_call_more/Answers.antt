use Rattle.dsql_player_wires.proofs.Stopped.{answer_untaken, call_lacking, fleet_unasked, nothing_came, nothing_untaken}
use Rattle.dsql_player_wires.proofs.stopping.wires_hear_at_most_one_call_more.Goals as goal

pub returns-clause-nothing : goal.returns-clause-nothing
returns-clause-nothing g c = nothing_untaken g.W.Wire.told

pub returns-clause-untaken : goal.returns-clause-untaken
returns-clause-untaken g c = answer_untaken g.W.Wire.told

pub returns-clause-lacking : goal.returns-clause-lacking
returns-clause-lacking g c = call_lacking g.W.Wire.told

pub returns-clause-unasked : goal.returns-clause-unasked
returns-clause-unasked g c = fleet_unasked g.W.Wire.told

pub returns-clause-unplanned : goal.returns-clause-unplanned
returns-clause-unplanned g c = nothing_came g.W.Wire.told
