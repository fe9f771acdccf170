use Rattle.dsql_laws_ends.proofs.Whose.{kept_client, unfinished_entered}
use Rattle.dsql_laws_ends.proofs.clients.a_call_keeps_its_client.Goals as goal

pub returns-clause-keeps : goal.returns-clause-keeps
returns-clause-keeps c = kept_client

pub returns-clause-entered : goal.returns-clause-entered
returns-clause-entered c = unfinished_entered
