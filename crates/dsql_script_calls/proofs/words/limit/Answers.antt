use Rattle.std.proofs.Common.{◌≡◌, ◌≢◌, get_or, unwrap_or, codes, rules, sym, ◌∙◌, lit<}
use Rattle.std.proofs.lemmas.Bool.{eqb-true, eqb-false}
use Rattle.std.proofs.lemmas.Str.Pattern.{strip_prefix_char}
use Rattle.dsql_script_calls.proofs.ScriptLimits.{IsStripped, limit_of-padded, limit_of-plus, limit_of-read}
use Rattle.dsql_script_calls.proofs.words.limit.Goals as goal

pub returns-then-starts_with : goal.returns-then-starts_with
returns-then-starts_with c =
    let stripped : IsStripped c.args.word c.strip_prefix.result = strip_prefix_char 45 c.args.word.now c.strip_prefix.result c.strip_prefix.ensures.cases (lit< tt) in
    let first : get_or c.unwrap_or-digits.result.now 0 0 ≡ 48 = search (rules, eqb-true) in
    let zero : get_or (unwrap_or c.strip_prefix.result c.args.word).now 0 0 ≡ 48 = rw (← c.unwrap_or-digits.ensures) first in
    let other : c.args.word.now ≢ codes "0" = search rules in
    sym (limit_of-padded c.args.word c.strip_prefix.result stripped zero other)

pub returns-then-starts_with-2 : goal.returns-then-starts_with-2
returns-then-starts_with-2 c =
    let plus : get_or c.args.word.now 0 0 ≡ 43 = search (rules, eqb-true) in
    sym (limit_of-plus c.args.word.now plus)

pub returns : goal.returns
returns c =
    let stripped : IsStripped c.args.word c.strip_prefix.result = strip_prefix_char 45 c.args.word.now c.strip_prefix.result c.strip_prefix.ensures.cases (lit< tt) in
    let first : get_or c.unwrap_or-digits.result.now 0 0 ≢ 48 = search (rules, eqb-false) in
    let other : get_or (unwrap_or c.strip_prefix.result c.args.word).now 0 0 ≢ 48 = rw (← c.unwrap_or-digits.ensures) first in
    let plus : get_or c.args.word.now 0 0 ≢ 43 = search (rules, eqb-false) in
    c.ok.ensures.value ∙ limit_of-read c.args.word c.strip_prefix.result c.parse.result stripped other plus c.parse.ensures.value.0
