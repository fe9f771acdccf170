use Rattle.dsql_wait.proofs.Queues.{room_lasts}
use Rattle.dsql_wait.proofs.laws.room_lasts.Goals as goal

pub returns : goal.returns
returns c = room_lasts
