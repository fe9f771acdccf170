use Rattle.dsql_player.proofs.Going.{ran_out, runs_more, runs_none, so_far}
use Rattle.dsql_player.proofs.taking_steps.steps_in_turn_add_up.Goals as goal

pub returns-clause-none : goal.returns-clause-none
returns-clause-none c = runs_none

pub returns-clause-more : goal.returns-clause-more
returns-clause-more c = runs_more

pub returns-clause-so_far : goal.returns-clause-so_far
returns-clause-so_far c = so_far

pub returns-clause-out : goal.returns-clause-out
returns-clause-out c = ran_out
