use Rattle.dsql_laws_others.proofs.Openings.{silent, due_opens, used_opens, goes_on_opens}
use Rattle.dsql_laws_others.proofs.others.an_opening_touches_no_other_call.Goals as goal

pub returns-clause-due : goal.returns-clause-due
returns-clause-due c = due_opens

pub returns-clause-used : goal.returns-clause-used
returns-clause-used c = used_opens

pub returns-clause-others : goal.returns-clause-others
returns-clause-others c = λ history conn n l. goes_on_opens history conn n (silent history l)
