use Rattle.dsql_player_wires.proofs.Extending.{extends_same, extends_more, extends_then}
use Rattle.dsql_player_wires.proofs.laws.histories_go_on.Goals as goal

pub returns-clause-same : goal.returns-clause-same
returns-clause-same c = extends_same

pub returns-clause-event : goal.returns-clause-event
returns-clause-event c = extends_more

pub returns-clause-then : goal.returns-clause-then
returns-clause-then c = extends_then
