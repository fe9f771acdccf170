use Rattle.std.proofs.Common.{◌≡◌, ℕ, refl, sym, ap, ◌∙◌, arith}
use Rattle.dsql_history.specs.Readers.Works.{hands_out_in}
use Rattle.dsql_engine_calls.specs.Calls.{row_at}
use Rattle.dsql_engine_effects.specs.Ended.{calls_ended, is_such, rows_ended, works_of}
use Rattle.dsql_engine_effects.proofs.EndedRows.{all_ended_works, none_before, no_call_before, next_rows, next_calls, such_here, rows_at_last, calls_at_last}
use Rattle.dsql_engine_effects.proofs.ending.end_rows_in.Goals as goal

pub loop-query-init : goal.loop-query-init
loop-query-init c =
    let such = hands_out_in c.args.tx in
    let works = works_of c.args.calls.now.items in (
      sym (no_call_before such c.args.tx works c.args.call c.args.rows.now.rows c.args.tx c.args.calls.now.items (omega arith)),
      refl,
      refl,
      sym (none_before such c.args.tx works c.args.tx c.args.rows.now.rows (omega arith)),
      refl,
      omega arith,
    )

pub loop-query-preserved : goal.loop-query-preserved
loop-query-preserved c =
    let tx = c.args.tx in
    let such = hands_out_in tx in
    let calls = c.args.calls.now.items in
    let works = works_of calls in
    let rows = c.args.rows.now.rows in
    let n = c.args.call in
    let i = c.loop-query.query in
    let now = c.loop-query.calls.items in
    let kept : works_of now ≡ works = ap works_of c.loop-query.invariant.0 ∙ all_ended_works such tx works n rows i calls in
    let here : such (row_at now i).work ≡ is_such such tx works i = such_here such tx i works now c.loop-query.auto.query kept in (
      next_calls such tx works n i (such (row_at now i).work) rows c.loop-query.rows.rows calls now _ here c.loop-query.invariant.3 c.loop-query.invariant.0 c.end_rows_of.ensures.calls,
      c.end_rows_of.ensures.len ∙ c.loop-query.invariant.1,
      c.end_rows_of.ensures.capacity ∙ c.loop-query.invariant.2,
      next_rows such tx works i (such (row_at now i).work) rows c.loop-query.rows.rows _ here c.loop-query.invariant.3 c.end_rows_of.ensures.rows,
      c.end_rows_of.ensures.spare ∙ c.loop-query.invariant.4,
      omega arith,
    )

pub returns-clause-calls : goal.returns-clause-calls
returns-clause-calls c =
    let such = hands_out_in c.args.tx in
    let calls = c.args.calls.now.items in
    let works = works_of calls in
    let rows = c.args.rows.now.rows in
    c.loop-query.invariant.0
    ∙ (calls_at_last such c.args.tx c.loop-query.query c.numbered-query-end.result works c.args.call rows calls c.loop-query-test.false c.loop-query.auto.query c.loop-query.invariant.5
    ∙ ap (λ (k : ℕ). calls_ended such c.args.tx works c.args.call rows k calls) c.numbered-query-end.ensures)

pub returns-clause-rows : goal.returns-clause-rows
returns-clause-rows c =
    let such = hands_out_in c.args.tx in
    let works = works_of c.args.calls.now.items in
    let rows = c.args.rows.now.rows in
    c.loop-query.invariant.3
    ∙ (rows_at_last such c.args.tx c.loop-query.query c.numbered-query-end.result works rows c.loop-query-test.false c.loop-query.auto.query c.loop-query.invariant.5
    ∙ ap (λ (k : ℕ). rows_ended such c.args.tx works k rows) c.numbered-query-end.ensures)
