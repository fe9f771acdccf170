use Rattle.std.proofs.Common.{◌≡◌, ◌≢◌, get_or, codes, rules, sym, ◌∙◌}
use Rattle.std.proofs.lemmas.Bool.{eqb-true, eqb-false}
use Rattle.dsql_script_calls.proofs.ScriptMoments.{moment_of-padded, moment_of-plus, moment_of-read}
use Rattle.dsql_script_calls.proofs.words.moment.Goals as goal

pub returns-then-starts_with : goal.returns-then-starts_with
returns-then-starts_with c =
    let zero : get_or c.args.word.now 0 0 ≡ 48 = search (rules, eqb-true) in
    let other : c.args.word.now ≢ codes "0" = search rules in
    sym (moment_of-padded c.args.word.now zero other)

pub returns-then-starts_with-2 : goal.returns-then-starts_with-2
returns-then-starts_with-2 c =
    let plus : get_or c.args.word.now 0 0 ≡ 43 = search (rules, eqb-true) in
    sym (moment_of-plus c.args.word.now plus)

pub returns : goal.returns
returns c =
    let other : get_or c.args.word.now 0 0 ≢ 48 = search (rules, eqb-false) in
    let plus : get_or c.args.word.now 0 0 ≢ 43 = search (rules, eqb-false) in
    c.ok.ensures.value ∙ moment_of-read c.args.word.now c.parse.result other plus c.parse.ensures.value.0
