-- Defines a table of rows, by their numbers.
use Rattle.std.specs.Prelude.{◌≡◌, ◌≢◌, ℕ, ◌==◌, Bool, true, false, if◌then◌else◌, List, length, Option, Some, None, is_none, Result, Ok, Err, MatchResult}
use Rattle.dsql_value.specs.declared.value.Value.{Value}
use Rattle.dsql_scan.specs.declared.cell.Cell.{Cell}
use Rattle.dsql_scan.specs.declared.dest.Dest.{Dest}
use Rattle.dsql_scan.specs.Rows.{row_of, RowScan}
use Rattle.dsql_value_numbered.specs.Numbered as numbered
use Rattle.dsql_rows.specs.declared.end.RowsEnd.{RowsEnd}
use Rattle.dsql_rows.specs.declared.fault.RowsClosed.{RowsClosed}
use Rattle.dsql_rows.specs.declared.fault.RowsFault.{RowsFault}
use Rattle.dsql_rows.specs.declared.fault.RowsFault.TheVariants as fault
use Rattle.dsql_rows.specs.declared.rows.Rows.{Rows}
use Rattle.dsql_rows.specs.Ends.{over_of, is_fault}

-- Returns rows as they are made.
abbrev pub fresh : ℕ → List (List ℕ) → Rows
fresh cursor columns = record { cursor = cursor; columns = columns; current = None; ended = None }

-- Is true if nothing has ended the rows.
abbrev pub is_live : Rows → Bool
is_live rows = is_none rows.ended

-- Returns the rows with these values as the current row.
abbrev pub shown : List Value → Rows → Rows
shown values rows = record rows { current = Some values }

-- Returns the rows ended by this, or unchanged if they have ended before.
abbrev pub ended_by : RowsEnd → Rows → Rows
ended_by by rows = if is_live rows then record rows { ended = Some by } else rows

-- Returns what ended the rows if it is an error, and `None` otherwise.
abbrev pub told : Option RowsEnd → Option RowsEnd
told None = None
told (Some end) = if is_fault end then Some end else None

abbrev pub told_by : Rows → Option RowsEnd
told_by rows = told rows.ended

-- Holds if the rows have ended by what this says.
abbrev pub IsClosedBy : Rows → RowsClosed → Type 0
IsClosedBy rows closed = (end : RowsEnd) × (rows.ended ≡ Some end) × (closed.by ≡ over_of end)

abbrev pub Scanned : Type 0
Scanned = Result (List Cell) RowsFault

abbrev pub scan_answer : RowScan → Scanned
scan_answer (Ok cells) = Ok cells
scan_answer (Err why) = Err (fault.Scan why)

-- Returns the cells that a current row becomes in the destinations, or why it can't be scanned.
abbrev pub current_in : List Dest → Option (List Value) → Scanned
current_in dests None = Err fault.NoNextYet
current_in dests (Some values) = scan_answer (row_of values dests)

-- Returns the result of a scan. It checks first whether the rows have ended.
abbrev pub answer_of : List Dest → Option RowsEnd → Option (List Value) → Scanned
answer_of dests (Some end) current = Err (fault.RowsClosed (over_of end))
answer_of dests None current = current_in dests current

abbrev pub scan_of : Rows → List Dest → Scanned
scan_of rows dests = answer_of dests rows.ended rows.current

-- Is true if there is a current row with as many values as there are destinations.
abbrev pub fits : List Dest → Option (List Value) → Bool
fits dests None = false
fits dests (Some values) = length values == length dests

-- Is true if the rows are live and their current row has a value for each destination.
abbrev pub is_readable : List Dest → Rows → Bool
is_readable dests rows = if is_live rows then fits dests rows.current else false

-- Holds if this is the result of a scan. It may also be a lack of memory if the rows are live and their current
-- row has a value for each destination.
abbrev pub IsScan : Scanned → Rows → List Dest → Type 0
IsScan result rows dests =
    MatchResult result (λ cells. scan_of rows dests ≡ Ok cells)
    (λ why. (why ≢ fault.Memory → scan_of rows dests ≡ Err why) × (why ≡ fault.Memory → is_readable dests rows ≡ true))

-- The rows by their numbers, in the order in which they were made, and for how many more calls there is memory.
pub record OpenRows : Type 0 where
  pub rows : List (ℕ × Rows)
  pub spare : ℕ

-- Returns the rows of this number, or `None`.
abbrev pub rows_of : ℕ → List (ℕ × Rows) → Option Rows
rows_of n rows = numbered.thing_of n rows

abbrev pub was_made : ℕ → List (ℕ × Rows) → Bool
was_made n rows = numbered.was_made n rows
