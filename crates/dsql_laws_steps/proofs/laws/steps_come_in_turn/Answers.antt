use Rattle.dsql_laws_steps.proofs.Turns.{more_in_turn, first_in_turn, behind_in_turn}
use Rattle.dsql_laws_steps.proofs.laws.steps_come_in_turn.Goals as goal

pub returns-clause-more : goal.returns-clause-more
returns-clause-more c = more_in_turn

pub returns-clause-first : goal.returns-clause-first
returns-clause-first c = first_in_turn

pub returns-clause-behind : goal.returns-clause-behind
returns-clause-behind c = behind_in_turn
