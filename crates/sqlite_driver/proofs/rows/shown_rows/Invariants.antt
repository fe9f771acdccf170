use Rattle.std.proofs.Common.{take}
use Rattle.sqlite_driver.specs.Values.{ShowsRows}
use Rattle.sqlite_driver.proofs.rows.shown_rows.Given as goal

abbrev pub invariant-loop-row : goal.invariant-loop-row
invariant-loop-row l = ShowsRows (take l.row-index l.rows) l.all.items
