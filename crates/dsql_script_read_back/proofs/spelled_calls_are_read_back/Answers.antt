use Rattle.dsql_script_read_back.proofs.ReadCalls.{dests_are_read_back, call_is_asked_back}
use Rattle.dsql_script_read_back.proofs.ReadClients.{client_is_read_back}
use Rattle.dsql_script_read_back.proofs.ReadLines.{line_is_read_back}
use Rattle.dsql_script_read_back.proofs.spelled_calls_are_read_back.Goals as goal

pub returns : goal.returns
returns c = record {
  client = client_is_read_back;
  dests = dests_are_read_back;
  call = call_is_asked_back;
  line = line_is_read_back;
}
