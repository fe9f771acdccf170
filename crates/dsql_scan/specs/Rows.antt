-- What the values of a row become in as many destinations.
use Rattle.std.specs.Prelude.{◌≡◌, ◌≢◌, ℕ, ◌+◌, min, ◌==◌, List, [], ◌∷◌, length, Result, Ok, Err, MatchResult, if◌then◌else◌}
use Rattle.dsql_value.specs.declared.value.Value.{Value}
use Rattle.dsql_scan.specs.declared.cell.Cell.{Cell}
use Rattle.dsql_scan.specs.declared.dest.Dest.{Dest}
use Rattle.dsql_scan.specs.declared.fault.RowFault.{RowFault}
use Rattle.dsql_scan.specs.declared.fault.RowFault.TheVariants.{DestCount, At, Memory}
use Rattle.dsql_scan.specs.Table.{Scan, scan_of}

-- Returns a count or a place, or the largest number of 32 bits if it is above that.
abbrev pub in_32_bits : ℕ → ℕ
in_32_bits n = min n 4294967295

-- Returns the table's answers for the columns, in their order.
abbrev pub answers_of : List Value → List Dest → List Scan
answers_of (value ∷ values) (dest ∷ dests) = scan_of value dest ∷ answers_of values dests
answers_of _ _ = []

abbrev pub RowScan : Type 0
RowScan = Result (List Cell) RowFault

-- Returns a cell before those of later columns.
abbrev pub with_cell : Cell → RowScan → RowScan
with_cell cell (Ok cells) = Ok (cell ∷ cells)
with_cell cell (Err fault) = Err fault

-- Returns the cells of the answers, or the first fault with its place. The first answer stands at `place`.
abbrev pub cells_of : ℕ → List Scan → RowScan
cells_of place [] = Ok []
cells_of place (Ok cell ∷ later) = with_cell cell (cells_of (place + 1) later)
cells_of place (Err fault ∷ later) = Err (At (in_32_bits place) fault)

-- Returns what a whole row becomes. The counts of values and destinations are compared before any column is
-- scanned.
abbrev pub row_of : List Value → List Dest → RowScan
row_of values dests =
    if length values == length dests then cells_of 0 (answers_of values dests) else Err
    (DestCount (in_32_bits (length values)) (in_32_bits (length dests)))

-- Holds if a result is this answer, or there was no memory.
abbrev pub IsRow : RowScan → RowScan → Type 0
IsRow result answer = MatchResult result (λ cells. answer ≡ Ok cells) (λ fault. fault ≢ Memory → answer ≡ Err fault)
