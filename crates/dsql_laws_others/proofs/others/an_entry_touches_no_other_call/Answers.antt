use Rattle.dsql_laws_others.proofs.Entries.{due_entered, used_entered, goes_on_entered}
use Rattle.dsql_laws_others.proofs.others.an_entry_touches_no_other_call.Goals as goal

pub returns-clause-due : goal.returns-clause-due
returns-clause-due c = λ history client n m op. due_entered history client n op m

pub returns-clause-used : goal.returns-clause-used
returns-clause-used c = used_entered

pub returns-clause-others : goal.returns-clause-others
returns-clause-others c = goes_on_entered
