-- Computing checks each worked word and line.
use Rattle.std.proofs.Common.{refl}
use Rattle.std.specs.Fmt.{digits}
use Rattle.dsql_script_generator.specs.Worked.{WorkedCounts, WorkedLines}

pub worked_counts : WorkedCounts
unfolding digits
worked_counts = record {
  one = refl;
  most = refl;
  zero_lines = refl;
  zero_in_front = refl;
  too_many = refl;
  nothing = refl;
  plus = refl;
  space_behind = refl;
  zeros_in_front = refl;
  six_digits = refl;
}

pub worked_lines : WorkedLines
unfolding digits
worked_lines = record {
  line_1 = refl;
  line_2 = refl;
  line_8 = refl;
  line_9 = refl;
  line_10 = refl;
  line_513 = refl;
  two_lines = refl;
}
