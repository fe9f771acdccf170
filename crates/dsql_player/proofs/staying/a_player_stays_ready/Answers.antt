use Rattle.dsql_player.proofs.Ready.{answer_ready, end_ready, entry_ready, control_ready, wake_ready}
use Rattle.dsql_player.proofs.staying.a_player_stays_ready.Goals as goal

pub returns-clause-control : goal.returns-clause-control
returns-clause-control c = control_ready

pub returns-clause-ended : goal.returns-clause-ended
returns-clause-ended c = end_ready

pub returns-clause-entered : goal.returns-clause-entered
returns-clause-entered c = entry_ready

pub returns-clause-answered : goal.returns-clause-answered
returns-clause-answered c = answer_ready

pub returns-clause-woken : goal.returns-clause-woken
returns-clause-woken c = wake_ready
