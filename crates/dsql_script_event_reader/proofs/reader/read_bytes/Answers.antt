use Rattle.dsql_script_event_reader.proofs.LinesBack.{not_too_long, bytes_are_refused, text_is_its_event}
use Rattle.dsql_script_event_reader.proofs.reader.read_bytes.Goals as goal

pub returns-in_default : goal.returns-in_default
returns-in_default c =
    let few = not_too_long c.args.line.now c.is_too_long.result c.is_too_long.ensures c.if-is_too_long.false in
    λ _. bytes_are_refused c.args.line.now few c.in_default.ensures.cases.0

pub returns : goal.returns
returns c =
    let few = not_too_long c.args.line.now c.is_too_long.result c.is_too_long.ensures c.if-is_too_long.false in
    let is = text_is_its_event c.args.line.now few c.in-Ok.ensures.cases.1 in
    rw (is, ← c.in-Ok.ensures.cases.0) c.read_text.ensures
