use Rattle.std.proofs.Common.{◌≡◌, map, take}
use Rattle.dsql_mem_session.specs.Shape.{row_of}
use Rattle.dsql_mem_session.proofs.shape.Shape.rows.Given as goal

abbrev pub invariant-loop-entry : goal.invariant-loop-entry
invariant-loop-entry l = l.rows.items ≡ map (row_of l.self) (take l.entry-index l.entries)
