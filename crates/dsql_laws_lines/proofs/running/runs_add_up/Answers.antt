use Rattle.dsql_laws_lines.proofs.AddedUp.{one_step, added_up, added_in_turn}
use Rattle.dsql_laws_lines.proofs.running.runs_add_up.Goals as goal

pub returns-clause-one : goal.returns-clause-one
returns-clause-one c = one_step

pub returns-clause-more : goal.returns-clause-more
returns-clause-more c = added_up

pub returns-clause-in_turn : goal.returns-clause-in_turn
returns-clause-in_turn c = added_in_turn
