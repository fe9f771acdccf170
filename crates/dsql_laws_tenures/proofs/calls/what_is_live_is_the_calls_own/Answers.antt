use Rattle.dsql_laws_tenures.proofs.CallsLive.{call_cursors, call_handles}
use Rattle.dsql_laws_tenures.proofs.calls.what_is_live_is_the_calls_own.Goals as goal

pub returns : goal.returns
returns c = record { cursor = call_cursors; handles = call_handles }
