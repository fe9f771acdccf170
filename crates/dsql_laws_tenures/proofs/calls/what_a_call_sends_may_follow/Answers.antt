use Rattle.dsql_laws_tenures.proofs.CallTenures.{call_follows}
use Rattle.dsql_laws_tenures.proofs.calls.what_a_call_sends_may_follow.Goals as goal

pub returns : goal.returns
returns c = call_follows
