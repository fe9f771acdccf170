use Rattle.std.proofs.Common.{length}
use Rattle.dsql_scan.proofs.RowLemmas.{HasScanned}
use Rattle.dsql_scan.proofs.row.scan_columns.Given as goal

abbrev pub invariant-loop-value : goal.invariant-loop-value
invariant-loop-value l = HasScanned l.values l.dests (length l.yielded) l.cells.items
