use Rattle.std.proofs.Common.{take}
use Rattle.sqlite_driver.specs.Values.{ShowsRow}
use Rattle.sqlite_driver.proofs.rows.shown_row.Given as goal

abbrev pub invariant-loop-at : goal.invariant-loop-at
invariant-loop-at l = ShowsRow (take l.at l.row) l.values.items
