-- The whole numbers that words spell.
use Rattle.std.specs.Prelude.{ℕ, ℤ, pos, negsuc, int_le, Bool, ◌&&◌, List, Option, Some, None, if◌then◌else◌}
use Rattle.std.specs.Fmt.{signed_decimal}
use Rattle.std.specs.Str.{bytes_eq}
use Rattle.std.specs.Str.Parse.{signed_digits_value}

-- Is true if the number fits an i64.
abbrev pub fits_i64 : ℤ → Bool
fits_i64 z = int_le (negsuc 9223372036854775807) z && int_le z (pos 9223372036854775807)

-- Returns the number that has the word as its decimal text, if there is one and it fits an i64.
abbrev pub number_of : List ℕ → Option ℤ
number_of word =
    let z = signed_digits_value 10 word in if bytes_eq (signed_decimal z) word && fits_i64 z then Some z else None
