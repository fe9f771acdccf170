use Rattle.dsql_player_wires.proofs.GivenBack.{got_all_back, none_to_give}
use Rattle.dsql_player_wires.proofs.Stopped.{gives_all_back, stops_after}
use Rattle.dsql_player_wires.proofs.stopping.what_a_stopped_run_records_adds_up.Goals as goal

pub returns-clause-then : goal.returns-clause-then
returns-clause-then g c = stops_after g.W.Wire.told

pub returns-clause-back : goal.returns-clause-back
returns-clause-back g c = gives_all_back g.W.Wire.told

pub returns-clause-all : goal.returns-clause-all
returns-clause-all g c = got_all_back g.W.Wire.told

pub returns-clause-none : goal.returns-clause-none
returns-clause-none g c = none_to_give
