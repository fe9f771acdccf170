use Rattle.dsql_script_event_reader.proofs.LinesBack.{line_tells_its_event}
use Rattle.dsql_script_event_reader.proofs.laws.lines_tell_their_events.Goals as goal

pub returns : goal.returns
returns c = line_tells_its_event
