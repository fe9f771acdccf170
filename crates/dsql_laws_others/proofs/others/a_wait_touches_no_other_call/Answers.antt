use Rattle.dsql_laws_others.proofs.Untouched.{due_waits, used_waits, goes_on_waits}
use Rattle.dsql_laws_others.proofs.others.a_wait_touches_no_other_call.Goals as goal

pub returns-clause-due : goal.returns-clause-due
returns-clause-due c = due_waits

pub returns-clause-used : goal.returns-clause-used
returns-clause-used c = used_waits

pub returns-clause-others : goal.returns-clause-others
returns-clause-others c = goes_on_waits
