use Rattle.dsql_engine_lines.proofs.OfCalls.{kept_line}
use Rattle.dsql_engine_lines.proofs.kept.what_is_kept_of_a_call_is_what_was_heard_in_its_line.Goals as goal

pub returns : goal.returns
returns c = kept_line
