-- The rows before the index are ended, and the room is unchanged.
use Rattle.std.proofs.Common.{◌≡◌}
use Rattle.indexmap.specs.IndexMap.{spare}
use Rattle.dsql_rows.specs.OpenRows.{ended_by}
use Rattle.dsql_rows.specs.declared.end.RowsEnd.TheVariants.{EndOfRun}
use Rattle.dsql_value_numbered.proofs.EachThing.{changed_before}
use Rattle.dsql_rows.proofs.table.RowsTable.close_all.Given as goal

abbrev pub invariant-loop-index : goal.invariant-loop-index
invariant-loop-index l =
    (l.self-inside.rows.entries ≡ changed_before (ended_by EndOfRun) l.index l.initial.self-inside.rows.entries)
    × (spare l.self-inside.rows ≡ spare l.initial.self-inside.rows)
