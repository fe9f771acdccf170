-- The laws of the table, proved column by column.
use Rattle.std.proofs.Common.{◌≡◌, ◌+◌, ℕ, ℤ, pos, negsuc, suc, zero, Bool, true, false, ◌&&◌, cond, if◌then◌else◌, nat_le, ◌==◌, List, [], ◌∷◌, length, map, Option, Some, None, Ok, Err, refl, ap, ◌∙◌, arith, add-zero, zero-add}
use Rattle.std.specs.Str.{is_utf8}
use Rattle.std.proofs.lemmas.Bool.{cond-true, cond-false, eq-eqb, ne_eqb}
use Rattle.dsql_value.specs.declared.value.Value.{Value}
use Rattle.dsql_value.specs.declared.value.Value.TheVariants.{Nil, Int, Bytes, Text}
use Rattle.dsql_scan.specs.declared.cell.Cell.{Cell}
use Rattle.dsql_scan.specs.declared.cell.Cell.TheVariants as cells
use Rattle.dsql_scan.specs.declared.dest.Dest.{Dest}
use Rattle.dsql_scan.specs.declared.dest.Dest.TheVariants as dests
use Rattle.dsql_scan.specs.declared.fault.ScanFault.{ScanFault}
use Rattle.dsql_scan.specs.declared.fault.ScanFault.TheVariants as faults
use Rattle.dsql_scan.specs.declared.fault.RowFault.TheVariants.{At, DestCount}
use Rattle.dsql_scan.specs.Numbers.{plain_number, signed_number, fits_signed}
use Rattle.dsql_scan.specs.Truths.{spelled_truth, number_truth}
use Rattle.dsql_scan.specs.Table.{Scan, scan_of, column_of, takes_null, is_nil, text_of, bytes_of, truth_of, truth_cell, signed_of, signed_cell, signed_cell_of, unsigned_of, unsigned_cell, unsigned_cell_of, unsigned_cell_of_int, time_of, any_of}
use Rattle.dsql_scan.specs.Rows.{answers_of, cells_of, with_cell, in_32_bits}
use Rattle.dsql_scan.specs.Laws.{OnlyTextsSpell, NullsTakeNil, inner_of, MemoryIsNoAnswer, IsFirstFault, RowsAreAnswered}
use Rattle.dsql_scan.proofs.Utf8.{plain_number-not, signed_number-not, spelled_truth-not}

pub only_texts_spell : OnlyTextsSpell
only_texts_spell bytes bad = record { plain = plain_number-not bytes bad; signed = signed_number-not bytes bad; truth = spelled_truth-not bytes bad }

nil-null : (dest : Dest) → takes_null dest ≡ true → scan_of Nil dest ≡ Ok cells.Null
nil-null dest h = ap (λ t. cond (t && true) (Ok cells.Null) (column_of Nil dest)) h

-- For a value that isn't nil, a Null destination has its inner destination's answer.
other-inner : (value : Value) (dest : Dest) → is_nil value ≡ false → scan_of value dest ≡ scan_of value (inner_of dest)
other-inner value dests.NullText h = rw h refl
other-inner value dests.NullI64 h = rw h refl
other-inner value dests.NullI32 h = rw h refl
other-inner value dests.NullI16 h = rw h refl
other-inner value dests.NullU8 h = rw h refl
other-inner value dests.NullBool h = rw h refl
other-inner value dests.NullTime h = rw h refl
other-inner value _ h = refl

pub nulls_take_nil : NullsTakeNil
nulls_take_nil = record { nil = nil-null; other = other-inner }

-- Is true if the answer isn't want of memory.
abbrev is_told : Scan → Bool
is_told (Err faults.Memory) = false
is_told _ = true

if-told : (test : Bool) (x y : Scan) → is_told x ≡ true → is_told y ≡ true → is_told (if test then x else y) ≡ true
if-told true x y told _ = told
if-told false x y _ told = told

text-told : (value : Value) → is_told (text_of value) ≡ true
text-told (Bytes bytes) = if-told (is_utf8 bytes) (Ok (cells.Text bytes)) (Err faults.NotUtf8) refl refl
text-told _ = refl

bytes-told : (value : Value) → is_told (bytes_of value) ≡ true
bytes-told Nil = refl
bytes-told _ = refl

truth_cell-told : (truth : Option Bool) → is_told (truth_cell truth) ≡ true
truth_cell-told None = refl
truth_cell-told (Some b) = refl

truth-told : (value : Value) → is_told (truth_of value) ≡ true
truth-told (Int n) = truth_cell-told (number_truth n)
truth-told (Text text) = truth_cell-told (spelled_truth text)
truth-told (Bytes bytes) = truth_cell-told (spelled_truth bytes)
truth-told _ = refl

signed_cell-told : (greatest : ℕ) (n : ℤ) → is_told (signed_cell greatest n) ≡ true
signed_cell-told greatest n = if-told (fits_signed greatest n) (Ok (cells.Int n)) (Err faults.OutOfRange) refl refl

signed_cell_of-told : (greatest : ℕ) (n : Option ℤ) → is_told (signed_cell_of greatest n) ≡ true
signed_cell_of-told greatest None = refl
signed_cell_of-told greatest (Some n) = signed_cell-told greatest n

signed-told : (dest : Dest) (greatest : ℕ) (value : Value) → is_told (signed_of dest greatest value) ≡ true
signed-told dest greatest (Int n) = signed_cell-told greatest n
signed-told dest greatest (Text text) = signed_cell_of-told greatest (signed_number text)
signed-told dest greatest (Bytes bytes) = signed_cell_of-told greatest (signed_number bytes)
signed-told dest greatest _ = refl

unsigned_cell-told : (greatest n : ℕ) → is_told (unsigned_cell greatest n) ≡ true
unsigned_cell-told greatest n = if-told (nat_le n greatest) (Ok (cells.Uint n)) (Err faults.OutOfRange) refl refl

unsigned_cell_of-told : (greatest : ℕ) (n : Option ℕ) → is_told (unsigned_cell_of greatest n) ≡ true
unsigned_cell_of-told greatest None = refl
unsigned_cell_of-told greatest (Some n) = unsigned_cell-told greatest n

unsigned_int-told : (greatest : ℕ) (n : ℤ) → is_told (unsigned_cell_of_int greatest n) ≡ true
unsigned_int-told greatest (pos n) = unsigned_cell-told greatest n
unsigned_int-told greatest (negsuc n) = refl

unsigned-told : (dest : Dest) (greatest : ℕ) (value : Value) → is_told (unsigned_of dest greatest value) ≡ true
unsigned-told dest greatest (Int n) = unsigned_int-told greatest n
unsigned-told dest greatest (Text text) = unsigned_cell_of-told greatest (plain_number text)
unsigned-told dest greatest (Bytes bytes) = unsigned_cell_of-told greatest (plain_number bytes)
unsigned-told dest greatest _ = refl

time-told : (value : Value) → is_told (time_of value) ≡ true
time-told Nil = refl
time-told _ = refl

any-told : (value : Value) → is_told (any_of value) ≡ true
any-told Nil = refl
any-told _ = refl

column-told : (value : Value) (dest : Dest) → is_told (column_of value dest) ≡ true
column-told value dests.Bytes = bytes-told value
column-told value dests.Bool = truth-told value
column-told value dests.I8 = signed-told dests.I8 127 value
column-told value dests.I16 = signed-told dests.I16 32767 value
column-told value dests.I32 = signed-told dests.I32 2147483647 value
column-told value dests.I64 = signed-told dests.I64 9223372036854775807 value
column-told value dests.U8 = unsigned-told dests.U8 255 value
column-told value dests.U16 = unsigned-told dests.U16 65535 value
column-told value dests.U32 = unsigned-told dests.U32 4294967295 value
column-told value dests.U64 = unsigned-told dests.U64 18446744073709551615 value
column-told value dests.Time = time-told value
column-told value dests.Any = any-told value
column-told value dests.NullI64 = signed-told dests.I64 9223372036854775807 value
column-told value dests.NullI32 = signed-told dests.I32 2147483647 value
column-told value dests.NullI16 = signed-told dests.I16 32767 value
column-told value dests.NullU8 = unsigned-told dests.U8 255 value
column-told value dests.NullBool = truth-told value
column-told value dests.NullTime = time-told value
column-told value _ = text-told value

pub memory_is_no_answer : MemoryIsNoAnswer
memory_is_no_answer value dest is =
    let told : is_told (scan_of value dest) ≡ true = if-told (takes_null dest && is_nil value) (Ok cells.Null) (column_of value dest) refl (column-told value dest) in
    let memory : is_told (scan_of value dest) ≡ false = ap is_told is in
    cc

cells_of-first_fault : (answers : List Scan) (from place : ℕ) (fault : ScanFault) → IsFirstFault answers place fault → cells_of from answers ≡ Err (At (in_32_bits (from + place)) fault)
cells_of-first_fault [] from place fault h = cc
cells_of-first_fault (Err other ∷ later) from zero fault h =
    let same : other ≡ fault = cc in
    rw add-zero (ap (λ f. Err (At (in_32_bits from) f)) same)
cells_of-first_fault (Ok cell ∷ later) from zero fault h = cc
cells_of-first_fault (Err other ∷ later) from (suc place) fault h =
    let first = (h.before 0 (omega arith)).1 in
    cc
cells_of-first_fault (Ok cell ∷ later) from (suc place) fault h =
    let behind : IsFirstFault later place fault = record { here = h.here; before = λ k below. h.before (suc k) (omega arith) } in
    let place_is : from + 1 + place ≡ from + suc place = omega arith in
    ap (with_cell cell) (cells_of-first_fault later (from + 1) place fault behind) ∙ ap (λ k. Err (At (in_32_bits k) fault)) place_is

cells_of-cells : (cells : List Cell) (from : ℕ) → cells_of from (map Ok cells) ≡ Ok cells
cells_of-cells [] from = refl
cells_of-cells (cell ∷ cells) from = rw (cells_of-cells cells (from + 1)) refl

pub rows_are_answered : RowsAreAnswered
rows_are_answered =
    record {
      counts_differ = λ values dests h. cond-false (length values == length dests) (cells_of 0 (answers_of values dests)) (Err (DestCount (in_32_bits (length values)) (in_32_bits (length dests)))) (ne_eqb (length values) (length dests) h);
      first_fault = λ values dests place fault same h. cond-true (length values == length dests) (cells_of 0 (answers_of values dests)) (Err (DestCount (in_32_bits (length values)) (in_32_bits (length dests)))) (eq-eqb (length values) (length dests) same) ∙ cells_of-first_fault (answers_of values dests) 0 place fault h ∙ ap (λ k. Err (At (in_32_bits k) fault)) (zero-add place);
      all_cells = λ values dests cells same h. cond-true (length values == length dests) (cells_of 0 (answers_of values dests)) (Err (DestCount (in_32_bits (length values)) (in_32_bits (length dests)))) (eq-eqb (length values) (length dests) same) ∙ ap (cells_of 0) h ∙ cells_of-cells cells 0;
    }
