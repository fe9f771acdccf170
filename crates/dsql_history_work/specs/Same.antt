-- Defines tests that parameters are the same, and that cells are.
use Rattle.std.specs.Prelude.{ℕ, ◌==◌, Bool, true, false, ◌&&◌, cond, not, List, [], ◌∷◌, Option, Some, None, bytes_eq}
use Rattle.std.specs.Ordering.{int_eq}
use Rattle.dsql_value.specs.declared.value.Value.{Value}
use Rattle.dsql_value.specs.declared.value.Value.TheVariants.{Nil, Int, Bytes, Text, Time}
use Rattle.dsql_value.specs.declared.value.Value.TheVariants as values
use Rattle.dsql_value.specs.declared.value.Param.{Param}
use Rattle.dsql_scan.specs.declared.cell.Cell.{Cell}
use Rattle.dsql_scan.specs.declared.cell.Cell.TheVariants as cells

abbrev pub same_truth : Bool → Bool → Bool
same_truth a b = cond a b (not b)

abbrev pub same_value : Value → Value → Bool
same_value Nil Nil = true
same_value (Int number) (Int other) = int_eq number other
same_value (values.Bool truth) (values.Bool other) = same_truth truth other
same_value (Bytes bytes) (Bytes other) = bytes_eq bytes other
same_value (Text text) (Text other) = bytes_eq text other
same_value (Time moment) (Time other) = int_eq moment other
same_value _ _ = false

abbrev pub same_name : Option (List ℕ) → Option (List ℕ) → Bool
same_name None None = true
same_name (Some name) (Some other) = bytes_eq name other
same_name _ _ = false

abbrev pub same_params : List Param → List Param → Bool
same_params [] [] = true
same_params (param ∷ params) (other ∷ others) =
    same_name param.name other.name && same_value param.value other.value && same_params params others
same_params _ _ = false

abbrev pub same_cell : Cell → Cell → Bool
same_cell cells.Null cells.Null = true
same_cell (cells.Text text) (cells.Text other) = bytes_eq text other
same_cell (cells.Bytes bytes) (cells.Bytes other) = bytes_eq bytes other
same_cell (cells.Bool truth) (cells.Bool other) = same_truth truth other
same_cell (cells.Int number) (cells.Int other) = int_eq number other
same_cell (cells.Uint number) (cells.Uint other) = number == other
same_cell (cells.Time moment) (cells.Time other) = int_eq moment other
same_cell _ _ = false

abbrev pub same_cells : List Cell → List Cell → Bool
same_cells [] [] = true
same_cells (cell ∷ cells) (other ∷ others) = same_cell cell other && same_cells cells others
same_cells _ _ = false
