use Rattle.std.proofs.Common.{lit<}
use Rattle.std.proofs.lemmas.Str.Pattern.{strip_suffix_char}
use Rattle.dsql_script_reader.proofs.ScriptTexts.{strip_carriage_return-is}
use Rattle.dsql_script_reader.proofs.reader.without_return.Goals as goal

pub returns : goal.returns
returns c =
    let cut = strip_suffix_char 13 c.args.line.now c.strip_suffix.result c.strip_suffix.ensures.cases (lit< tt) in
    rw c.unwrap_or.ensures (strip_carriage_return-is c.args.line c.strip_suffix.result cut)
