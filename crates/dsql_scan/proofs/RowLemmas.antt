-- The cells of a row, one column after another. The cells so far stand before those of the columns that are
-- left.
use Rattle.std.proofs.Common.{◌≡◌, ℕ, ◌+◌, ◌<◌, zero, suc, List, [], ◌∷◌, ◌++◌, drop, get_or, length, min, arith, Ok, Err, refl, sym, ap, ◌∙◌}
use Rattle.std.proofs.lemmas.List.{append_assoc, append-nil, drop_all, drop_more, length_push}
use Rattle.dsql_value.specs.declared.value.Value.{Value}
use Rattle.dsql_scan.specs.declared.cell.Cell.{Cell}
use Rattle.dsql_scan.specs.declared.dest.Dest.{Dest}
use Rattle.dsql_scan.specs.declared.fault.ScanFault.{ScanFault}
use Rattle.dsql_scan.specs.declared.fault.RowFault.TheVariants.{At}
use Rattle.dsql_scan.specs.Table.{Scan, scan_of}
use Rattle.dsql_scan.specs.Rows.{RowScan, answers_of, cells_of, in_32_bits, with_cell}

-- Returns the cells before those of later columns.
abbrev pub with_cells : List Cell → RowScan → RowScan
with_cells cells (Ok later) = Ok (cells ++ later)
with_cells cells (Err fault) = Err fault

-- Holds if these are the cells of the first n columns, none of which is refused.
pub record HasScanned (values : List Value) (dests : List Dest) (n : ℕ) (cells : List Cell) : Type 0 where
  pub so_far : cells_of 0 (answers_of values dests) ≡ with_cells cells (cells_of n (answers_of (drop n values) (drop n dests)))
  pub count : length cells ≡ n

with_cells-more : (cells : List Cell) (cell : Cell) (later : RowScan) → with_cells cells (with_cell cell later) ≡ with_cells (cells ++ cell ∷ []) later
with_cells-more cells cell (Ok rest) = ap Ok (sym (append_assoc cells (cell ∷ []) rest))
with_cells-more cells cell (Err fault) = refl

drop-at : {A : Type 0} (xs : List A) (n : ℕ) (x : A) → n < length xs → x ≡ get_or xs n x → drop n xs ≡ x ∷ drop (n + 1) xs
drop-at xs n x within is = drop_more xs n x within ∙ ap (λ y. y ∷ drop (n + 1) xs) (sym is)

answers-none : (values : List Value) → answers_of values [] ≡ []
answers-none [] = refl
answers-none (value ∷ values) = refl

answers-over : (values : List Value) (dests : List Dest) (n : ℕ) → n ≡ min (length values) (length dests) → answers_of (drop n values) (drop n dests) ≡ []
answers-over [] dests n over = ap (λ vs. answers_of vs (drop n dests)) (drop_all n [] (omega arith))
answers-over (value ∷ values) [] n over =
    ap (answers_of (drop n (value ∷ values))) (drop_all n [] (omega arith)) ∙ answers-none (drop n (value ∷ values))
answers-over (value ∷ values) (dest ∷ dests) zero over = absurd (omega arith)
answers-over (value ∷ values) (dest ∷ dests) (suc n) over = answers-over values dests n (omega arith)

module _ (values : List Value) (dests : List Dest) (n : ℕ) (cells : List Cell) (scanned : HasScanned values dests n cells) where
  module _ (value : Value) (dest : Dest) (in_values : n < length values) (in_dests : n < length dests) (value_is : value ≡ get_or values n value) (dest_is : dest ≡ get_or dests n dest) where
    answered : (answer : Scan) → scan_of value dest ≡ answer
        → cells_of 0 (answers_of values dests) ≡ with_cells cells (cells_of n (answer ∷ answers_of (drop (n + 1) values) (drop (n + 1) dests)))
    answered answer is =
        scanned.so_far
        ∙ ap (λ vs. with_cells cells (cells_of n (answers_of vs (drop n dests)))) (drop-at values n value in_values value_is)
        ∙ ap (λ ds. with_cells cells (cells_of n (answers_of (value ∷ drop (n + 1) values) ds))) (drop-at dests n dest in_dests dest_is)
        ∙ ap (λ a. with_cells cells (cells_of n (a ∷ answers_of (drop (n + 1) values) (drop (n + 1) dests)))) is

    -- If the next column has a cell, the cells with this one are those of one column more.
    pub HasScanned-more : (cell : Cell) → scan_of value dest ≡ Ok cell → HasScanned values dests (n + 1) (cells ++ cell ∷ [])
    HasScanned-more cell is = record {
      so_far = answered (Ok cell) is ∙ with_cells-more cells cell (cells_of (n + 1) (answers_of (drop (n + 1) values) (drop (n + 1) dests)));
      count = length_push cells cell ∙ ap (λ k. k + 1) scanned.count;
    }

    -- If the next column is refused, the row has this fault at the column's place.
    pub refused-next : (place : ℕ) (fault : ScanFault) → place ≡ n → scan_of value dest ≡ Err fault
        → cells_of 0 (answers_of values dests) ≡ Err (At (in_32_bits place) fault)
    refused-next place fault place_is is = answered (Err fault) is ∙ ap (λ k. Err (At (in_32_bits k) fault)) (sym place_is)

  -- If no column is left, the cells so far are those of the row.
  pub all-scanned : n ≡ min (length values) (length dests) → cells_of 0 (answers_of values dests) ≡ Ok cells
  all-scanned over = scanned.so_far ∙ ap (λ a. with_cells cells (cells_of n a)) (answers-over values dests n over) ∙ ap Ok (append-nil cells)
