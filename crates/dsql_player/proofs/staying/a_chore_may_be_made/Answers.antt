use Rattle.dsql_player.proofs.Housekeeping.{made_so}
use Rattle.dsql_player.proofs.staying.a_chore_may_be_made.Goals as goal

pub returns : goal.returns
returns c = made_so
