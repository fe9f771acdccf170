-- Defines the laws of the table of rows.
use Rattle.std.specs.Prelude.{◌≡◌, ◌≢◌, ℕ, true, false, List, [], ◌∷◌, ◌++◌, Some, Err, fold}
use Rattle.std.specs.Option.{option_map}
use Rattle.dsql_value.specs.declared.value.Value.{Value}
use Rattle.dsql_scan.specs.declared.dest.Dest.{Dest}
use Rattle.dsql_scan.specs.Rows.{row_of}
use Rattle.dsql_rows.specs.declared.end.RowsEnd.{RowsEnd}
use Rattle.dsql_rows.specs.declared.fault.RowsFault.TheVariants as fault
use Rattle.dsql_rows.specs.declared.rows.Rows.{Rows}
use Rattle.dsql_rows.specs.Ends.{over_of}
use Rattle.dsql_value_numbered.specs.Numbered.{changed}
use Rattle.dsql_rows.specs.OpenRows.{fresh, is_live, shown, ended_by, scan_of, scan_answer, rows_of, was_made}

-- Holds if the first end of rows stays, whatever ends them later.
pub record FirstEndStays : Type 0 where
  pub first : (by : RowsEnd) (rows : Rows) → is_live rows ≡ true → (ended_by by rows).ended ≡ Some by
  pub stays : (by end : RowsEnd) (rows : Rows) → rows.ended ≡ Some end → ended_by by rows ≡ rows
  pub whatever_comes : (by : RowsEnd) (later : List RowsEnd) (rows : Rows)
      → fold (λ r end. ended_by end r) (ended_by by rows) later ≡ ended_by by rows

-- Holds if a scan reads the newest row of live rows.
pub record ScanReadsTheNewest : Type 0 where
  pub none_yet : (cursor : ℕ) (columns : List (List ℕ)) (dests : List Dest) → scan_of (fresh cursor columns) dests
      ≡ Err fault.NoNextYet
  pub reads : (values : List Value) (rows : Rows) (dests : List Dest) → is_live rows ≡ true
      → scan_of (shown values rows) dests ≡ scan_answer (row_of values dests)
  pub newest : (older values : List Value) (rows : Rows) → shown values (shown older rows) ≡ shown values rows
  pub ended : (by : RowsEnd) (rows : Rows) (dests : List Dest) → is_live rows ≡ true
      → scan_of (ended_by by rows) dests ≡ Err (fault.RowsClosed (over_of by))

-- Holds if a change makes or changes the rows of its number and no others.
pub record ChangesOneNumber : Type 0 where
  pub made : (n cursor : ℕ) (columns : List (List ℕ)) (rows : List (ℕ × Rows)) → was_made n rows ≡ false
      → rows_of n (rows ++ (n, fresh cursor columns) ∷ []) ≡ Some (fresh cursor columns)
  pub changes : (change : Rows → Rows) (n : ℕ) (rows : List (ℕ × Rows)) → rows_of n (changed change n rows)
      ≡ option_map change (rows_of n rows)
  pub others_beside_new : (n other cursor : ℕ) (columns : List (List ℕ)) (rows : List (ℕ × Rows)) → other ≢ n
      → rows_of other (rows ++ (n, fresh cursor columns) ∷ []) ≡ rows_of other rows
  pub others : (change : Rows → Rows) (n other : ℕ) (rows : List (ℕ × Rows)) → other ≢ n
      → rows_of other (changed change n rows) ≡ rows_of other rows
