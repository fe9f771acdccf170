-- Worked words and lines.
use Rattle.std.specs.Prelude.{◌≡◌, Some, None, codes, ◌++◌}
use Rattle.dsql_script_generator.specs.Counts.{asked_count}
use Rattle.dsql_script_generator.specs.Script.{line_text, generated}

-- Holds if these words ask for a number of lines, or for none, as stated.
pub record WorkedCounts : Type 0 where
  pub one : asked_count (codes "1") ≡ Some 1
  pub most : asked_count (codes "10000") ≡ Some 10000
  pub zero_lines : asked_count (codes "0") ≡ None
  pub zero_in_front : asked_count (codes "01") ≡ None
  pub too_many : asked_count (codes "10001") ≡ None
  pub nothing : asked_count (codes "") ≡ None
  pub plus : asked_count (codes "+1") ≡ None
  pub space_behind : asked_count (codes "1 ") ≡ None
  pub zeros_in_front : asked_count (codes "00001") ≡ None
  pub six_digits : asked_count (codes "100000") ≡ None

-- Holds if these lines, by their numbers, have the stated text.
pub record WorkedLines : Type 0 where
  pub line_1 : line_text 1 ≡ codes "c1 begin x1 db\n"
  pub line_2 : line_text 2 ≡ codes "c1 exec x1 [\"SET ? ?\",\"u1\",\"Ann\"]\n"
  pub line_8 : line_text 8 ≡ codes "c1 commit x1\n"
  pub line_9 : line_text 9 ≡ codes "c2 begin x2 db\n"
  pub line_10 : line_text 10 ≡ codes "c2 exec x2 [\"SET ? ?\",\"u2\",\"Ann\"]\n"
  pub line_513 : line_text 513 ≡ codes "c1 begin x65 db\n"
  pub two_lines : generated 2 ≡ codes "c1 begin x1 db\n" ++ codes "c1 exec x1 [\"SET ? ?\",\"u1\",\"Ann\"]\n"
