-- Words that ask for a number of lines.
use Rattle.std.specs.Prelude.{ℕ, ◌≡◌, ◌≤◌, ◌&&◌, nat_le, List, Option, Some, None, if◌then◌else◌, decimal}
use Rattle.std.specs.Str.{bytes_eq}
use Rattle.std.specs.Str.Parse.{digits_value}
use Rattle.dsql_script_generator.specs.declared.count.TheConstants.{MOST}

-- Holds if the word is the decimal text of n, and n is from 1 to the most that a word may ask for.
pub record IsCountOf (word : List ℕ) (n : ℕ) : Type 0 where
  pub text : word ≡ decimal n
  pub some : 1 ≤ n
  pub most : n ≤ MOST

-- Returns the number of lines that a word asks for, if it asks for any.
abbrev pub asked_count : List ℕ → Option ℕ
asked_count word =
    let n = digits_value 10 word in if bytes_eq (decimal n) word && (nat_le 1 n && nat_le n MOST) then Some n else None
