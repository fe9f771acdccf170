use Rattle.dsql_player.proofs.Turning.{chore_in_turn, entry_in_turn}
use Rattle.dsql_player.proofs.taking_steps.what_comes_in_turn.Goals as goal

pub returns-clause-chore : goal.returns-clause-chore
returns-clause-chore c = chore_in_turn

pub returns-clause-entry : goal.returns-clause-entry
returns-clause-entry c = entry_in_turn
