-- Each worked row holds by computation.
use Rattle.std.proofs.Common.{refl}
use lib.Utf8.{encode}
use Rattle.std.specs.Str.{is_utf8, chars}
use Rattle.dsql_scan.specs.Numbers.{decimal_value}
use Rattle.dsql_scan.specs.Worked.{WorkedScans}

pub worked_scans : WorkedScans
unfolding decimal_value is_utf8 chars encode
worked_scans = record {
  too_large_for_u8 = refl;
  minus_one_unsigned = refl;
  plus_seven = refl;
  truth_as_number = refl;
  number_as_time = refl;
  nil_as_text = refl;
  nil_as_null_i64 = refl;
  no_text = refl;
  one_is_true = refl;
  two_is_no_truth = refl;
  one_past_i64 = refl;
  one_past_i64_in_u64 = refl;
  nil_as_bytes = refl;
  thirty_digits = refl;
  thirty_digits_and_a_letter = refl;
  leading_zeros = refl;
  one_below_i8 = refl;
  no_digits = refl;
  fault_in_null = refl;
  least_i8 = refl;
  greatest_i8 = refl;
  one_past_i8 = refl;
  least_i16 = refl;
  one_past_i16 = refl;
  one_below_i32 = refl;
  greatest_i32 = refl;
  least_i64 = refl;
  one_below_i64 = refl;
  greatest_u8 = refl;
  one_past_u16 = refl;
  greatest_u32 = refl;
  one_past_u64 = refl;
  plus_unsigned = refl;
  minus_zero = refl;
  two_signs = refl;
  space_before = refl;
  fraction = refl;
  no_text_is_no_number = refl;
  upper_true = refl;
  mixed_true = refl;
  truth_as_bytes = refl;
  nil_as_time = refl;
}
