use Rattle.std.proofs.Common.{List, get_or, subst}
use Rattle.sqlite_driver.specs.Values.{ShowsRow}
use Rattle.sqlite_driver.proofs.RowLemmas.{AllMatch-more}
use Rattle.sqlite_value.specs.declared.value.Value.{Value as SqlValue}
use Rattle.sqlite_driver.proofs.rows.shown_rows.Goals as goal

pub loop-row-preserved : goal.loop-row-preserved
loop-row-preserved c =
    let row = c.in_ok-shown_row.field-0 in
    let ShowsIt : List SqlValue → Type 0 = λ r. ShowsRow r row in
    let next : ShowsRow (get_or c.args.rows.now c.loop-row.row-index c.row-item.result) row = subst ShowsIt c.row-item.is c.in_ok-shown_row.ensures in
    rw c.in_ok-push.ensures.items (AllMatch-more ShowsRow c.args.rows.now c.loop-row.all.items c.loop-row.row-index c.row-item.result row c.loop-row-test.true c.loop-row.invariant next)
