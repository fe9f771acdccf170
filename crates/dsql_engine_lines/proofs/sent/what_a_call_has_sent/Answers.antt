use Rattle.dsql_engine_lines.proofs.Newest.{begun_where_sent}
use Rattle.dsql_engine_lines.proofs.sent.what_a_call_has_sent.Goals as goal

pub returns : goal.returns
returns c = begun_where_sent
