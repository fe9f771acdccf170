use Rattle.std.proofs.Common.{◌≢◌, get_or, rules, ◌∙◌}
use Rattle.std.proofs.lemmas.Bool.{eqb-false}
use Rattle.dsql_script_calls.proofs.ScriptOrdinals.{ordinal_of-read}
use Rattle.dsql_script_calls.proofs.words.ordinal.Goals as goal

pub returns : goal.returns
returns c =
    let other : get_or c.args.word.now 0 0 ≢ 48 = search (rules, eqb-false) in
    let plus : get_or c.args.word.now 0 0 ≢ 43 = search (rules, eqb-false) in
    c.ok.ensures.value ∙ ordinal_of-read c.args.word.now c.parse.result other plus c.parse.ensures.value.0
