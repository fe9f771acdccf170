-- What the rows of queries show.
use Rattle.std.specs.Prelude.{ℕ, List, [], ◌∷◌, map, codes}
use Rattle.dsql_driver_session.specs.Rows.{ResultSetState}
use Rattle.dsql_mem_store.specs.Entries.{Entries}
use Rattle.dsql_value.specs.declared.value.Value.{Value}
use Rattle.dsql_value.specs.declared.value.Value.TheVariants.{Text}
use Rattle.dsql_mem_session.specs.declared.shape.Shape.{Shape}
use Rattle.dsql_mem_session.specs.declared.shape.Shape.TheVariants as shape

-- Returns the names of the columns.
abbrev pub columns_of : Shape → List (List ℕ)
columns_of shape.Values = codes "value" ∷ []
columns_of shape.Entries = codes "key" ∷ codes "value" ∷ []

-- Returns the row of an entry.
abbrev pub row_of : Shape → List ℕ × Value → List Value
row_of shape.Values entry = entry.1 ∷ []
row_of shape.Entries entry = Text entry.0 ∷ entry.1 ∷ []

-- Returns the answer to a query that found these entries.
abbrev pub result_set : Shape → Entries → ResultSetState
result_set shape entries = record { columns = columns_of shape; rows = map (row_of shape) entries }
