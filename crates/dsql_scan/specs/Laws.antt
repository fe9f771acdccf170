-- The laws that say what the definitions of a scan mean.
use Rattle.std.specs.Prelude.{◌≡◌, ◌≢◌, ◌↔◌, ℕ, ◌+◌, ◌-◌, ◌*◌, ◌^◌, ◌<◌, ℤ, pos, neg_ℤ, true, false, List, [], ◌∷◌, ◌++◌, length, map, All, FitsSigned, Some, None, Ok, Err, ◌⊎◌}
use Rattle.std.specs.Char.{IsAsciiDigit}
use Rattle.std.specs.Fmt.{decimal, signed_decimal}
use Rattle.std.specs.Int.{w64}
use Rattle.std.specs.List.{slice_get}
use Rattle.std.specs.Str.{IsUtf8}
use Rattle.dsql_value.specs.declared.value.Value.{Value}
use Rattle.dsql_value.specs.declared.value.Value.TheVariants.{Nil, Int, Text}
use Rattle.dsql_scan.specs.declared.cell.Cell.{Cell}
use Rattle.dsql_scan.specs.declared.cell.Cell.TheVariants as cells
use Rattle.dsql_scan.specs.declared.dest.Dest.{Dest}
use Rattle.dsql_scan.specs.declared.dest.Dest.TheVariants as dests
use Rattle.dsql_scan.specs.declared.fault.ScanFault.{ScanFault}
use Rattle.dsql_scan.specs.declared.fault.ScanFault.TheVariants.{Memory}
use Rattle.dsql_scan.specs.declared.fault.RowFault.TheVariants.{DestCount, At}
use Rattle.dsql_scan.specs.Numbers.{decimal_value, plain_number, signed_number}
use Rattle.dsql_scan.specs.Truths.{spelled_truth}
use Rattle.dsql_scan.specs.Table.{Scan, scan_of, takes_null, is_nil}
use Rattle.dsql_scan.specs.Rows.{answers_of, row_of, in_32_bits}

-- Holds if digits stand for their decimal number. One more digit at the end makes ten times the number plus
-- that digit, and zeros in front change nothing.
pub record IsDecimal (value : List ℕ → ℕ) : Type 0 where
  pub none : value [] ≡ 0
  pub last : (front : List ℕ) (digit : ℕ) → value (front ++ digit ∷ []) ≡ value front * 10 + (digit - 48)
  pub leading_zero : (digits : List ℕ) → value (48 ∷ digits) ≡ value digits

-- Holds if the text is one digit or more, which stand for n.
pub record Spells (text : List ℕ) (n : ℕ) : Type 0 where
  pub some : 0 < length text
  pub digits : All IsAsciiDigit text
  pub value : decimal_value text ≡ n

-- Holds if the text is digits after no sign, after `+`, which is 43, or after `-`, which is 45.
pub record SpellsSigned (text : List ℕ) (z : ℤ) : Type 0 where
  pub digits : List ℕ
  pub number : ℕ
  pub spelled : Spells digits number
  pub signed : ((text ≡ digits) × (z ≡ pos number))
      ⊎ (((text ≡ 43 ∷ digits) × (z ≡ pos number)) ⊎ ((text ≡ 45 ∷ digits) × (z ≡ neg_ℤ (pos number))))

-- Holds if a number is read in a text exactly if digits spell it. For a signed destination they stand after a
-- sign or none.
pub record OnlyDigitsSpell : Type 0 where
  pub plain : (text : List ℕ) (n : ℕ) → (plain_number text ≡ Some n) ↔ Spells text n
  pub signed : (text : List ℕ) (z : ℤ) → (signed_number text ≡ Some z) ↔ SpellsSigned text z

-- Holds if the decimal text of a number of 64 bits is read as that number.
pub record DecimalsAreReadBack : Type 0 where
  pub plain : (n : ℕ) → n < 2 ^ 64 → plain_number (decimal n) ≡ Some n
  pub signed : (z : ℤ) → FitsSigned w64 z → signed_number (signed_decimal z) ≡ Some z
  pub scanned : (z : ℤ) → FitsSigned w64 z → scan_of (Text (signed_decimal z)) dests.I64 ≡ scan_of (Int z) dests.I64

-- Holds if the bytes spell neither a number nor a truth, as bytes that are no text do.
pub record BytesSpellNothing (bytes : List ℕ) : Type 0 where
  pub plain : plain_number bytes ≡ None
  pub signed : signed_number bytes ≡ None
  pub truth : spelled_truth bytes ≡ None

abbrev pub OnlyTextsSpell : Type 0
OnlyTextsSpell = (bytes : List ℕ) → ¬ (IsUtf8 bytes) → BytesSpellNothing bytes

-- Returns the destination inside a Null destination, or any other destination itself.
abbrev pub inner_of : Dest → Dest
inner_of dests.NullText = dests.Text
inner_of dests.NullI64 = dests.I64
inner_of dests.NullI32 = dests.I32
inner_of dests.NullI16 = dests.I16
inner_of dests.NullU8 = dests.U8
inner_of dests.NullBool = dests.Bool
inner_of dests.NullTime = dests.Time
inner_of dest = dest

-- Holds if a Null destination takes nil as null, and anything else as the one inside it does, with the same
-- faults.
pub record NullsTakeNil : Type 0 where
  pub nil : (dest : Dest) → takes_null dest ≡ true → scan_of Nil dest ≡ Ok cells.Null
  pub other : (value : Value) (dest : Dest) → is_nil value ≡ false → scan_of value dest ≡ scan_of value (inner_of dest)

abbrev pub MemoryIsNoAnswer : Type 0
MemoryIsNoAnswer = (value : Value) (dest : Dest) → scan_of value dest ≢ Err Memory

-- Holds if the answer at this place is the fault, and each before it is a cell.
pub record IsFirstFault (answers : List Scan) (place : ℕ) (fault : ScanFault) : Type 0 where
  pub here : slice_get answers place ≡ Some (Err fault)
  pub before : (k : ℕ) → k < place → (cell : Cell) × (slice_get answers k ≡ Some (Ok cell))

-- Holds if a row is answered in one of three ways: by its counts if they differ, by its first fault, or by its
-- cells.
pub record RowsAreAnswered : Type 0 where
  pub counts_differ : (values : List Value) (dests : List Dest) → length values ≢ length dests
      → row_of values dests ≡ Err (DestCount (in_32_bits (length values)) (in_32_bits (length dests)))
  pub first_fault : (values : List Value) (dests : List Dest) (place : ℕ) (fault : ScanFault)
      → length values ≡ length dests → IsFirstFault (answers_of values dests) place fault
      → row_of values dests ≡ Err (At (in_32_bits place) fault)
  pub all_cells : (values : List Value) (dests : List Dest) (cells : List Cell) → length values ≡ length dests
      → answers_of values dests ≡ map Ok cells → row_of values dests ≡ Ok cells
