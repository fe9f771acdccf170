use Rattle.std.proofs.Common.{◌<◌, ◌≤◌, length, arith, sym, ◌∙◌}
use Rattle.dsql_engine_desk.specs.Desk.{past}
use Rattle.dsql_engine_exchanged.specs.Filled.{filled}
use Rattle.dsql_laws_calls.specs.history.Readers.Works.{works}
use Rattle.dsql_laws_calls.proofs.Stays.{as_many}
use Rattle.dsql_laws_calls.specs.history.Rules.Sent.{asked_by}
use Rattle.dsql_engine_desk.proofs.FewCalls.{few_numbers, rows_counted}
use Rattle.dsql_engine_desk.proofs.FirstClosing.{beyond, closed_here, none_here, skipped}
use Rattle.dsql_engine_desk.proofs.desk.Desk.first_closing.Goals as goal

pub overflow_cast-query : goal.overflow_cast-query
overflow_cast-query c =
    let few = few_numbers c.args.self.now c.requires in
    omega (arith, few, c.loop-query-test.true, c.len-query-end.ensures)

pub loop-query-init : goal.loop-query-init
loop-query-init c = skipped (past c.args.self.now) c.args.tx c.args.tx (omega arith)

pub loop-query-preserved : goal.loop-query-preserved
loop-query-preserved c =
    let H = past c.args.self.now in
    c.loop-query.invariant ∙ none_here H c.args.tx c.loop-query.query (sym (c.in_default.ensures (asked_by H 0)))

pub returns-in-Some : goal.returns-in-Some
returns-in-Some c asked =
    let d = c.args.self.now in
    let H = past d in
    let q = c.loop-query.query in
    let many = as_many H in
    let rows = rows_counted d c.requires in
    let less : q < length (works H) = omega (arith, many, rows, c.loop-query-test.true, c.len-query-end.ensures) in
    sym (c.loop-query.invariant ∙ closed_here H c.args.tx q (filled asked c.in-Some.bare) less (sym (c.in-Some.ensures asked)))

pub returns : goal.returns
returns c asked =
    let d = c.args.self.now in
    let H = past d in
    let q = c.loop-query.query in
    let many = as_many H in
    let rows = rows_counted d c.requires in
    let over : length (works H) ≤ q = omega (arith, many, rows, c.loop-query-test.false, c.len-query-end.ensures) in
    sym (c.loop-query.invariant ∙ beyond H c.args.tx q over)
