use Rattle.dsql_laws_others.proofs.Untouched.{due_replied, used_replied, goes_on_replied}
use Rattle.dsql_laws_others.proofs.others.a_reply_touches_no_other_call.Goals as goal

pub returns-clause-due : goal.returns-clause-due
returns-clause-due c = λ history n m reply apart. due_replied history n reply m apart

pub returns-clause-used : goal.returns-clause-used
returns-clause-used c = used_replied

pub returns-clause-others : goal.returns-clause-others
returns-clause-others c = goes_on_replied
