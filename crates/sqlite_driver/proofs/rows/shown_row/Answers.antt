use Rattle.sqlite_driver.specs.Values.{Shows}
use Rattle.sqlite_driver.proofs.RowLemmas.{AllMatch-more}
use Rattle.sqlite_value.specs.Order.{column}
use Rattle.sqlite_value.specs.declared.value.Value.TheVariants.{Null}
use Rattle.sqlite_driver.proofs.rows.shown_row.Goals as goal

pub loop-at-preserved : goal.loop-at-preserved
loop-at-preserved c =
    let held = c.in_ok-held.ensures.ok in
    let next : Shows (column c.args.row.now c.loop-at.at) c.in_ok-value.value = rw held.1 at c.in_ok-value.ensures in
    rw c.in_ok-push.ensures.items (AllMatch-more Shows c.args.row.now c.loop-at.values.items c.loop-at.at Null c.in_ok-value.value held.0 c.loop-at.invariant next)
