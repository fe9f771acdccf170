use Rattle.dsql_laws_others.proofs.Lends.{due_lent, stands_lent, waits_lent, kept_lent, unfinished_lent}
use Rattle.dsql_laws_others.proofs.LentBeside.{used_beside, all_used}
use Rattle.dsql_laws_others.proofs.LentOthers.{due_others}
use Rattle.dsql_laws_others.proofs.LentStands.{itself_lent, somewhere_lent}
use Rattle.dsql_laws_others.proofs.lending.a_lending_touches_no_other_call.Goals as goal

pub returns-clause-due : goal.returns-clause-due
returns-clause-due c = λ history conn t n owner. due_lent history conn t owner n

pub returns-clause-stands : goal.returns-clause-stands
returns-clause-stands c = λ history conn t n owner. stands_lent history conn t owner n

pub returns-clause-waits : goal.returns-clause-waits
returns-clause-waits c = λ history conn t n m owner. waits_lent history conn t owner n m

pub returns-clause-used : goal.returns-clause-used
returns-clause-used c = λ history conn t n owner. kept_lent history conn t owner n

pub returns-clause-unfinished : goal.returns-clause-unfinished
returns-clause-unfinished c = λ history conn t n owner. unfinished_lent history conn t owner n

pub returns-clause-beside : goal.returns-clause-beside
returns-clause-beside c = λ history conn t n d u owner beside. used_beside history conn t owner n d u beside

pub returns-clause-all : goal.returns-clause-all
returns-clause-all c = λ history conn t n owner. all_used history conn t owner n

pub returns-clause-others : goal.returns-clause-others
returns-clause-others c = λ history conn t n m owner. due_others history conn t owner n m

pub returns-clause-itself : goal.returns-clause-itself
returns-clause-itself c = λ history conn t n owner. itself_lent history conn t owner n

pub returns-clause-somewhere : goal.returns-clause-somewhere
returns-clause-somewhere c = λ history conn t n k owner. somewhere_lent history conn t owner n k
