use Rattle.dsql_player.proofs.Turning.{goes_alike, out_at, turn_at}
use Rattle.dsql_player.proofs.taking_steps.whose_turn_it_is.Goals as goal

pub returns-clause-may : goal.returns-clause-may
returns-clause-may c = goes_alike

pub returns-clause-turn : goal.returns-clause-turn
returns-clause-turn c = turn_at

pub returns-clause-out : goal.returns-clause-out
returns-clause-out c = out_at
