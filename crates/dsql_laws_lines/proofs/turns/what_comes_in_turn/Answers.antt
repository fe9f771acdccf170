use Rattle.dsql_laws_lines.proofs.InTurn.{chore_comes, answer_comes, entry_comes, itself_comes, end_comes}
use Rattle.dsql_laws_lines.proofs.turns.what_comes_in_turn.Goals as goal

pub returns-clause-chore : goal.returns-clause-chore
returns-clause-chore c = chore_comes

pub returns-clause-answer : goal.returns-clause-answer
returns-clause-answer c = answer_comes

pub returns-clause-entry : goal.returns-clause-entry
returns-clause-entry c = entry_comes

pub returns-clause-itself : goal.returns-clause-itself
returns-clause-itself c = itself_comes

pub returns-clause-end : goal.returns-clause-end
returns-clause-end c = end_comes
