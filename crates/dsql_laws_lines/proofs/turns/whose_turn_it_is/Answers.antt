use Rattle.dsql_laws_lines.proofs.WhoseTurn.{turn_of, run_out, run_out_chores, run_out_nobody}
use Rattle.dsql_laws_lines.proofs.turns.whose_turn_it_is.Goals as goal

pub returns-clause-turn : goal.returns-clause-turn
returns-clause-turn c = turn_of

pub returns-clause-out : goal.returns-clause-out
returns-clause-out c = run_out

pub returns-clause-chores : goal.returns-clause-chores
returns-clause-chores c = run_out_chores

pub returns-clause-nobody : goal.returns-clause-nobody
returns-clause-nobody c = run_out_nobody
