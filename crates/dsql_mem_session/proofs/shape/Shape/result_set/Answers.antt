use Rattle.std.proofs.Common.{◌≡◌, true, [], ◌∷◌, length, map, refl}
use Rattle.dsql_driver_session.specs.Rows.{are_wide}
use Rattle.dsql_mem_store.specs.Entries.{Entries}
use Rattle.dsql_mem_session.specs.Shape.{columns_of, row_of}
use Rattle.dsql_mem_session.specs.declared.shape.Shape.{Shape}
use Rattle.dsql_mem_session.specs.declared.shape.Shape.TheVariants as shape
use Rattle.dsql_mem_session.proofs.shape.Shape.result_set.Goals as goal

-- Each row has one value for each column.
rows-are_wide : (s : Shape) (entries : Entries) → are_wide (length (columns_of s)) (map (row_of s) entries) ≡ true
rows-are_wide s [] = refl
rows-are_wide shape.Values (e ∷ entries) = rows-are_wide shape.Values entries
rows-are_wide shape.Entries (e ∷ entries) = rows-are_wide shape.Entries entries

pub of-requires : goal.of-requires
of-requires c = rw (c.in_ok-columns.ensures, c.in_ok-rows.ensures, c.as_slice.ensures) (rows-are_wide c.args.self c.args.entries.now)
