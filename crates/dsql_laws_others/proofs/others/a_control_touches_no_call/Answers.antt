use Rattle.dsql_laws_others.proofs.ControlMoves.{control_due, control_used, control_others}
use Rattle.dsql_laws_others.proofs.others.a_control_touches_no_call.Goals as goal

pub returns-clause-due : goal.returns-clause-due
returns-clause-due c = control_due

pub returns-clause-used : goal.returns-clause-used
returns-clause-used c = control_used

pub returns-clause-others : goal.returns-clause-others
returns-clause-others c = control_others
