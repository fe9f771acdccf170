use Rattle.dsql_laws_tenures.proofs.CallTenures.{call_alone, call_keeps, call_tenure}
use Rattle.dsql_laws_tenures.proofs.calls.what_a_call_sends_keeps_its_tenure.Goals as goal

pub returns : goal.returns
returns c = record { sent = call_keeps; alone = call_alone; tenure = call_tenure }
