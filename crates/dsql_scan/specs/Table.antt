-- The scan table: what a driver's value becomes in a destination, or why it is refused.
use Rattle.std.specs.Prelude.{ℕ, ℤ, pos, negsuc, ◌&&◌, nat_le, Option, Some, None, Result, Ok, Err, List, if◌then◌else◌}
use Rattle.std.specs.Prelude as prelude
use Rattle.std.specs.Fmt.{signed_decimal}
use Rattle.std.specs.Str.{is_utf8}
use Rattle.dsql_value.specs.declared.value.Value.{Value}
use Rattle.dsql_value.specs.declared.value.Value.TheVariants.{Nil, Int, Bool, Bytes, Text, Time}
use Rattle.dsql_scan.specs.declared.cell.Cell.{Cell}
use Rattle.dsql_scan.specs.declared.cell.Cell.TheVariants as cells
use Rattle.dsql_scan.specs.declared.dest.Dest.{Dest}
use Rattle.dsql_scan.specs.declared.dest.Dest.TheVariants as dests
use Rattle.dsql_scan.specs.declared.dest.Kind.TheVariants as kinds
use Rattle.dsql_scan.specs.declared.fault.ScanFault.{ScanFault}
use Rattle.dsql_scan.specs.declared.fault.ScanFault.TheVariants as faults
use Rattle.dsql_scan.specs.Numbers.{plain_number, signed_number, fits_signed}
use Rattle.dsql_scan.specs.Truths.{spelled_truth, number_truth, truth_word}

abbrev pub Scan : Type 0
Scan = Result Cell ScanFault

-- Returns bytes as a text.
abbrev pub decoded : List ℕ → Scan
decoded bytes = if is_utf8 bytes then Ok (cells.Text bytes) else Err faults.NotUtf8

-- Returns the column `text`.
abbrev pub text_of : Value → Scan
text_of Nil = Err (faults.FromNull dests.Text)
text_of (Int n) = Ok (cells.Text (signed_decimal n))
text_of (Bool b) = Ok (cells.Text (truth_word b))
text_of (Text text) = Ok (cells.Text text)
text_of (Bytes bytes) = decoded bytes
text_of (Time t) = Err (faults.Unsupported kinds.Time dests.Text)

-- Returns the column `bytes`.
abbrev pub bytes_of : Value → Scan
bytes_of Nil = Ok cells.Null
bytes_of (Int n) = Ok (cells.Bytes (signed_decimal n))
bytes_of (Bool b) = Ok (cells.Bytes (truth_word b))
bytes_of (Text text) = Ok (cells.Bytes text)
bytes_of (Bytes bytes) = Ok (cells.Bytes bytes)
bytes_of (Time t) = Err (faults.Unsupported kinds.Time dests.Bytes)

-- Returns a truth as a cell, if there is one.
abbrev pub truth_cell : Option prelude.Bool → Scan
truth_cell None = Err faults.NotABool
truth_cell (Some b) = Ok (cells.Bool b)

-- Returns the column `bool`.
abbrev pub truth_of : Value → Scan
truth_of Nil = Err (faults.FromNull dests.Bool)
truth_of (Int n) = truth_cell (number_truth n)
truth_of (Bool b) = Ok (cells.Bool b)
truth_of (Text text) = truth_cell (spelled_truth text)
truth_of (Bytes bytes) = truth_cell (spelled_truth bytes)
truth_of (Time t) = Err faults.NotABool

-- Returns a number as a cell of a signed width.
abbrev pub signed_cell : ℕ → ℤ → Scan
signed_cell greatest n = if fits_signed greatest n then Ok (cells.Int n) else Err faults.OutOfRange

-- Returns the number that a text spells, as a cell of a signed width.
abbrev pub signed_cell_of : ℕ → Option ℤ → Scan
signed_cell_of greatest None = Err faults.NotANumber
signed_cell_of greatest (Some n) = signed_cell greatest n

-- Returns the columns of signed widths, by their destination and the greatest number that it holds.
abbrev pub signed_of : Dest → ℕ → Value → Scan
signed_of dest greatest Nil = Err (faults.FromNull dest)
signed_of dest greatest (Int n) = signed_cell greatest n
signed_of dest greatest (Text text) = signed_cell_of greatest (signed_number text)
signed_of dest greatest (Bytes bytes) = signed_cell_of greatest (signed_number bytes)
signed_of dest greatest _ = Err faults.NotANumber

-- Returns a number as a cell of an unsigned width.
abbrev pub unsigned_cell : ℕ → ℕ → Scan
unsigned_cell greatest n = if nat_le n greatest then Ok (cells.Uint n) else Err faults.OutOfRange

-- Returns a number that may be below zero, as a cell of an unsigned width.
abbrev pub unsigned_cell_of_int : ℕ → ℤ → Scan
unsigned_cell_of_int greatest (pos n) = unsigned_cell greatest n
unsigned_cell_of_int greatest (negsuc n) = Err faults.NotANumber

-- Returns the number that a text spells, as a cell of an unsigned width.
abbrev pub unsigned_cell_of : ℕ → Option ℕ → Scan
unsigned_cell_of greatest None = Err faults.NotANumber
unsigned_cell_of greatest (Some n) = unsigned_cell greatest n

-- Returns the columns of unsigned widths, by their destination and the greatest number that it holds.
abbrev pub unsigned_of : Dest → ℕ → Value → Scan
unsigned_of dest greatest Nil = Err (faults.FromNull dest)
unsigned_of dest greatest (Int n) = unsigned_cell_of_int greatest n
unsigned_of dest greatest (Text text) = unsigned_cell_of greatest (plain_number text)
unsigned_of dest greatest (Bytes bytes) = unsigned_cell_of greatest (plain_number bytes)
unsigned_of dest greatest _ = Err faults.NotANumber

-- Returns the column `time`.
abbrev pub time_of : Value → Scan
time_of Nil = Err (faults.FromNull dests.Time)
time_of (Int n) = Err (faults.Unsupported kinds.Int dests.Time)
time_of (Bool b) = Err (faults.Unsupported kinds.Bool dests.Time)
time_of (Text text) = Err (faults.Unsupported kinds.Text dests.Time)
time_of (Bytes bytes) = Err (faults.Unsupported kinds.Bytes dests.Time)
time_of (Time t) = Ok (cells.Time t)

-- Returns the column `any`.
abbrev pub any_of : Value → Scan
any_of Nil = Ok cells.Null
any_of (Int n) = Ok (cells.Int n)
any_of (Bool b) = Ok (cells.Bool b)
any_of (Text text) = Ok (cells.Text text)
any_of (Bytes bytes) = Ok (cells.Bytes bytes)
any_of (Time t) = Ok (cells.Time t)

-- Returns the column of a destination. A Null destination has the column of the destination inside it.
abbrev pub column_of : Value → Dest → Scan
column_of value dests.Bytes = bytes_of value
column_of value dests.Bool = truth_of value
column_of value dests.I8 = signed_of dests.I8 127 value
column_of value dests.I16 = signed_of dests.I16 32767 value
column_of value dests.I32 = signed_of dests.I32 2147483647 value
column_of value dests.I64 = signed_of dests.I64 9223372036854775807 value
column_of value dests.U8 = unsigned_of dests.U8 255 value
column_of value dests.U16 = unsigned_of dests.U16 65535 value
column_of value dests.U32 = unsigned_of dests.U32 4294967295 value
column_of value dests.U64 = unsigned_of dests.U64 18446744073709551615 value
column_of value dests.Time = time_of value
column_of value dests.Any = any_of value
column_of value dests.NullI64 = signed_of dests.I64 9223372036854775807 value
column_of value dests.NullI32 = signed_of dests.I32 2147483647 value
column_of value dests.NullI16 = signed_of dests.I16 32767 value
column_of value dests.NullU8 = unsigned_of dests.U8 255 value
column_of value dests.NullBool = truth_of value
column_of value dests.NullTime = time_of value
column_of value _ = text_of value

-- Is true if the destination is a Null destination, which takes nil.
abbrev pub takes_null : Dest → prelude.Bool
takes_null dests.NullText = prelude.true
takes_null dests.NullI64 = prelude.true
takes_null dests.NullI32 = prelude.true
takes_null dests.NullI16 = prelude.true
takes_null dests.NullU8 = prelude.true
takes_null dests.NullBool = prelude.true
takes_null dests.NullTime = prelude.true
takes_null _ = prelude.false

abbrev pub is_nil : Value → prelude.Bool
is_nil Nil = prelude.true
is_nil _ = prelude.false

-- Returns the whole table.
abbrev pub scan_of : Value → Dest → Scan
scan_of value dest = if takes_null dest && is_nil value then Ok cells.Null else column_of value dest
