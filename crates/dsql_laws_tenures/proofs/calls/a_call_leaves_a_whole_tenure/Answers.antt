use Rattle.dsql_laws_tenures.proofs.CallTenures.{call_quiet, call_whole}
use Rattle.dsql_laws_tenures.proofs.calls.a_call_leaves_a_whole_tenure.Goals as goal

pub returns : goal.returns
returns c = record { whole = call_whole; quiet = call_quiet }
