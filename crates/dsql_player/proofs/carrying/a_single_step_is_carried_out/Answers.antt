use Rattle.dsql_player.proofs.Singles.{answer_steps, blocked_steps, chore_steps, entry_steps, idle_house_steps, idle_steps, started}
use Rattle.dsql_player.proofs.carrying.a_single_step_is_carried_out.Goals as goal

pub returns-clause-started : goal.returns-clause-started
returns-clause-started c = started

pub returns-clause-idle : goal.returns-clause-idle
returns-clause-idle c = idle_steps

pub returns-clause-enters : goal.returns-clause-enters
returns-clause-enters c = entry_steps

pub returns-clause-answered : goal.returns-clause-answered
returns-clause-answered c = answer_steps

pub returns-clause-blocked : goal.returns-clause-blocked
returns-clause-blocked c = blocked_steps

pub returns-clause-house_idle : goal.returns-clause-house_idle
returns-clause-house_idle c = idle_house_steps

pub returns-clause-house : goal.returns-clause-house
returns-clause-house c = chore_steps
