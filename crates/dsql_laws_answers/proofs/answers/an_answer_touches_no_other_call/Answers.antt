use Rattle.dsql_laws_answers.proofs.Heard.{used_heard, beside_heard}
use Rattle.dsql_laws_answers.proofs.Others.{stands_still, goes_on_heard}
use Rattle.dsql_laws_answers.proofs.answers.an_answer_touches_no_other_call.Goals as goal

pub returns-clause-each : goal.returns-clause-each
returns-clause-each c = λ history e t m owner l calm is. stands_still history e t owner m (record { lawful = l; lent = is }) calm

pub returns-clause-others : goal.returns-clause-others
returns-clause-others c = λ history e t owner l calm is. goes_on_heard history e t owner (record { lawful = l; lent = is }) calm

pub returns-clause-used : goal.returns-clause-used
returns-clause-used c = λ history e t owner l is. used_heard history e t owner (record { lawful = l; lent = is })

pub returns-clause-beside : goal.returns-clause-beside
returns-clause-beside c = λ history e t d u owner beside l is. beside_heard history e t d u owner beside (record { lawful = l; lent = is })
