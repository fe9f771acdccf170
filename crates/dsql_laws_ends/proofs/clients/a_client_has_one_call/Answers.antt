use Rattle.dsql_laws_ends.proofs.Whose.{call_of_its_client}
use Rattle.dsql_laws_ends.proofs.clients.a_client_has_one_call.Goals as goal

pub returns : goal.returns
returns c = call_of_its_client
