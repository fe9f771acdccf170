-- The table from which queries are answered.
use Rattle.std.specs.Prelude.{ℕ, pos, List, [], ◌∷◌, codes}
use Rattle.dsql_driver_session.specs.Rows.{ResultSetState}
use Rattle.dsql_value.specs.declared.value.Value.{Value}
use Rattle.dsql_value.specs.declared.value.Value.TheVariants.{Int, Text}

-- Returns the row of a city that was founded in this year.
abbrev pub row_of : List ℕ → ℕ → List Value
row_of city year = Text city ∷ Int (pos year) ∷ []

-- The columns and the rows of the table. Each cursor gives the rows in this order.
abbrev pub table : ResultSetState
table =
    record {
      columns = codes "city" ∷ codes "founded" ∷ [];
      rows = row_of (codes "Philadelphia") 1682 ∷ row_of (codes "Saint Petersburg") 1703
          ∷ row_of (codes "Canberra") 1913 ∷ [];
    }
