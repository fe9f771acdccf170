use Rattle.std.proofs.Common.{◌≢◌, sym, ◌∙◌, rules, get_or, arith}
use Rattle.std.proofs.lemmas.Bool.{eqb-false}
use Rattle.dsql_script_calls.proofs.ScriptClients.{client_number-ok, client_number-err, client_up_to_within}
use Rattle.dsql_script_calls.proofs.words.client_from.Goals as goal

pub returns : goal.returns
returns c =
    let zero : get_or c.args.digits.now 0 0 ≢ 48 = search (rules, eqb-false) in
    let plus : get_or c.args.digits.now 0 0 ≢ 43 = search (rules, eqb-false) in
    sym (client_number-ok c.args.digits.now c.parse.result c.in-Ok.client c.parse.ensures.value.0 zero plus c.in-Ok.is
    ∙ client_up_to_within c.in-Ok.client (omega arith) (omega arith))

pub returns-in_default : goal.returns-in_default
returns-in_default c =
    let plus : get_or c.args.digits.now 0 0 ≢ 43 = search (rules, eqb-false) in
    sym (client_number-err c.args.digits.now c.parse.result c.in_default.field-0 c.parse.ensures.value.0 plus c.in_default.is)
