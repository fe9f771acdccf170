use Rattle.dsql_script_reader.proofs.ScriptTexts.{line_of_text, line_of_bytes}
use Rattle.dsql_script_reader.proofs.reader.read_bytes.Goals as goal

pub returns-in_default : goal.returns-in_default
returns-in_default c = λ _. line_of_bytes c.args.race c.args.head c.args.line.now c.if-line-gt-LONGEST.false c.in_default.ensures.cases.0

pub returns : goal.returns
returns c =
    let is = line_of_text c.args.race c.args.head c.args.line.now c.if-line-gt-LONGEST.false c.in-Ok.ensures.cases.1 in
    rw (is, ← c.in-Ok.ensures.cases.0, ← c.without_return.ensures) c.read_text.ensures
