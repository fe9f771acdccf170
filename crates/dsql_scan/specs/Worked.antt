-- Worked rows of the scan table.
use Rattle.std.specs.Prelude.{◌≡◌, pos, negsuc, true, codes, ◌∷◌, [], Ok, Err}
use Rattle.dsql_value.specs.declared.value.Value.TheVariants.{Nil, Int, Bool, Bytes, Text}
use Rattle.dsql_scan.specs.declared.cell.Cell.TheVariants as cells
use Rattle.dsql_scan.specs.declared.dest.Dest.TheVariants as dests
use Rattle.dsql_scan.specs.declared.dest.Kind.TheVariants as kinds
use Rattle.dsql_scan.specs.declared.fault.ScanFault.TheVariants as faults
use Rattle.dsql_scan.specs.Table.{scan_of}

pub record WorkedScans : Type 0 where
  pub too_large_for_u8 : scan_of (Int (pos 300)) dests.U8 ≡ Err faults.OutOfRange
  pub minus_one_unsigned : scan_of (Text (codes "-1")) dests.U64 ≡ Err faults.NotANumber
  pub plus_seven : scan_of (Text (codes "+7")) dests.I8 ≡ Ok (cells.Int (pos 7))
  pub truth_as_number : scan_of (Bool true) dests.I64 ≡ Err faults.NotANumber
  pub number_as_time : scan_of (Int (pos 1)) dests.Time ≡ Err (faults.Unsupported kinds.Int dests.Time)
  pub nil_as_text : scan_of Nil dests.Text ≡ Err (faults.FromNull dests.Text)
  pub nil_as_null_i64 : scan_of Nil dests.NullI64 ≡ Ok cells.Null
  pub no_text : scan_of (Bytes (0xff ∷ [])) dests.Text ≡ Err faults.NotUtf8
  pub one_is_true : scan_of (Int (pos 1)) dests.Bool ≡ Ok (cells.Bool true)
  pub two_is_no_truth : scan_of (Text (codes "2")) dests.Bool ≡ Err faults.NotABool
  pub one_past_i64 : scan_of (Text (codes "9223372036854775808")) dests.I64 ≡ Err faults.OutOfRange
  pub one_past_i64_in_u64 : scan_of (Text (codes "9223372036854775808")) dests.U64 ≡ Ok (cells.Uint 9223372036854775808)
  pub nil_as_bytes : scan_of Nil dests.Bytes ≡ Ok cells.Null
  pub thirty_digits : scan_of (Text (codes "999999999999999999999999999999")) dests.I64 ≡ Err faults.OutOfRange
  pub thirty_digits_and_a_letter : scan_of (Text (codes "99999999999999999999999999999x")) dests.I64
      ≡ Err faults.NotANumber
  pub leading_zeros : scan_of (Text (codes "-000000000000000000000000000128")) dests.I8 ≡ Ok (cells.Int (negsuc 127))
  pub one_below_i8 : scan_of (Text (codes "-129")) dests.I8 ≡ Err faults.OutOfRange
  pub no_digits : scan_of (Text (codes "+")) dests.I64 ≡ Err faults.NotANumber
  pub fault_in_null : scan_of (Int (pos 256)) dests.NullU8 ≡ Err faults.OutOfRange
  pub least_i8 : scan_of (Int (negsuc 127)) dests.I8 ≡ Ok (cells.Int (negsuc 127))
  pub greatest_i8 : scan_of (Text (codes "127")) dests.I8 ≡ Ok (cells.Int (pos 127))
  pub one_past_i8 : scan_of (Int (pos 128)) dests.I8 ≡ Err faults.OutOfRange
  pub least_i16 : scan_of (Int (negsuc 32767)) dests.NullI16 ≡ Ok (cells.Int (negsuc 32767))
  pub one_past_i16 : scan_of (Int (pos 32768)) dests.I16 ≡ Err faults.OutOfRange
  pub one_below_i32 : scan_of (Int (negsuc 2147483648)) dests.NullI32 ≡ Err faults.OutOfRange
  pub greatest_i32 : scan_of (Int (pos 2147483647)) dests.I32 ≡ Ok (cells.Int (pos 2147483647))
  pub least_i64 : scan_of (Text (codes "-9223372036854775808")) dests.I64 ≡ Ok (cells.Int (negsuc 9223372036854775807))
  pub one_below_i64 : scan_of (Text (codes "-9223372036854775809")) dests.I64 ≡ Err faults.OutOfRange
  pub greatest_u8 : scan_of (Text (codes "255")) dests.U8 ≡ Ok (cells.Uint 255)
  pub one_past_u16 : scan_of (Int (pos 65536)) dests.U16 ≡ Err faults.OutOfRange
  pub greatest_u32 : scan_of (Int (pos 4294967295)) dests.U32 ≡ Ok (cells.Uint 4294967295)
  pub one_past_u64 : scan_of (Text (codes "18446744073709551616")) dests.U64 ≡ Err faults.OutOfRange
  pub plus_unsigned : scan_of (Text (codes "+1")) dests.U32 ≡ Err faults.NotANumber
  pub minus_zero : scan_of (Text (codes "-0")) dests.I64 ≡ Ok (cells.Int (pos 0))
  pub two_signs : scan_of (Text (codes "+-1")) dests.I64 ≡ Err faults.NotANumber
  pub space_before : scan_of (Text (codes " 1")) dests.I64 ≡ Err faults.NotANumber
  pub fraction : scan_of (Text (codes "1.0")) dests.I64 ≡ Err faults.NotANumber
  pub no_text_is_no_number : scan_of (Text []) dests.U8 ≡ Err faults.NotANumber
  pub upper_true : scan_of (Text (codes "TRUE")) dests.NullBool ≡ Ok (cells.Bool true)
  pub mixed_true : scan_of (Text (codes "tRUE")) dests.Bool ≡ Err faults.NotABool
  pub truth_as_bytes : scan_of (Bool true) dests.Bytes ≡ Ok (cells.Bytes (codes "true"))
  pub nil_as_time : scan_of Nil dests.Time ≡ Err (faults.FromNull dests.Time)
