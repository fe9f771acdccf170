use Rattle.dsql_laws_others.proofs.Closings.{due_closes, used_closes, goes_on_closes}
use Rattle.dsql_laws_others.proofs.others.an_idle_closing_touches_no_call.Goals as goal

pub returns-clause-due : goal.returns-clause-due
returns-clause-due c = λ history conn m cause at. due_closes history conn cause m at

pub returns-clause-used : goal.returns-clause-used
returns-clause-used c = used_closes

pub returns-clause-others : goal.returns-clause-others
returns-clause-others c = λ history conn n cause at. goes_on_closes history conn cause n at
