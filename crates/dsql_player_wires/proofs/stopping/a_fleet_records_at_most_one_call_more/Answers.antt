use Rattle.dsql_player_wires.proofs.Stopped.{all_taken, connect_lacking, connect_untaken, shut_untaken}
use Rattle.dsql_player_wires.proofs.stopping.a_fleet_records_at_most_one_call_more.Goals as goal

pub returns-clause-opened : goal.returns-clause-opened
returns-clause-opened g c = connect_untaken g.W.Wire.told

pub returns-clause-lacking : goal.returns-clause-lacking
returns-clause-lacking g c = connect_lacking g.W.Wire.told

pub returns-clause-shut : goal.returns-clause-shut
returns-clause-shut g c = shut_untaken g.W.Wire.told

pub returns-clause-taken : goal.returns-clause-taken
returns-clause-taken g c = all_taken g.W.Wire.told
