use Rattle.dsql_player.proofs.Beginning.{begun_at, begun_ready}
use Rattle.dsql_player.proofs.staying.a_player_begins_ready.Goals as goal

pub returns-clause-ready : goal.returns-clause-ready
returns-clause-ready c = begun_ready

pub returns-clause-at : goal.returns-clause-at
returns-clause-at c = begun_at
