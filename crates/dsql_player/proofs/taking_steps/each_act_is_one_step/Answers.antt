use Rattle.dsql_player.proofs.Standing.{answer_taken}
use Rattle.dsql_player.proofs.Taking.{end_taken, control_taken, wakes}
use Rattle.dsql_player.proofs.taking_steps.each_act_is_one_step.Goals as goal

pub returns-clause-control : goal.returns-clause-control
returns-clause-control c = control_taken

pub returns-clause-ended : goal.returns-clause-ended
returns-clause-ended c = end_taken

pub returns-clause-answered : goal.returns-clause-answered
returns-clause-answered c = answer_taken

pub returns-clause-woken : goal.returns-clause-woken
returns-clause-woken c = wakes
