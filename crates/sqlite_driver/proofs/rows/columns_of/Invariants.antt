use Rattle.std.proofs.Common.{◌≡◌, take}
use Rattle.sqlite_driver.proofs.rows.columns_of.Given as goal

abbrev pub invariant-loop-at : goal.invariant-loop-at
invariant-loop-at l = l.columns.items ≡ take l.at l.names
