use Rattle.dsql_script_event_reader.proofs.LinesBack.{told_result, refused_result}
use Rattle.dsql_script_event_reader.proofs.reader.read_event.Goals as goal

pub returns-clause-told : goal.returns-clause-told
returns-clause-told c = told_result c.args.line.now c.read_bytes.result c.read_bytes.ensures

pub returns-clause-refused : goal.returns-clause-refused
returns-clause-refused c = refused_result c.args.line.now c.read_bytes.result c.read_bytes.ensures
