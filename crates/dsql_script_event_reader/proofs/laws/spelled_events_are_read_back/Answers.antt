use Rattle.dsql_script_event_reader.proofs.LinesBack.{line_is_read_back}
use Rattle.dsql_script_event_reader.proofs.laws.spelled_events_are_read_back.Goals as goal

pub returns : goal.returns
returns c = line_is_read_back
