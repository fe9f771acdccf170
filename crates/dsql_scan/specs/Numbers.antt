-- The numbers that texts spell, and those that a destination holds.
use Rattle.std.specs.Prelude.{ℕ, ◌+◌, ◌-◌, ◌*◌, ◌^◌, ℤ, pos, negsuc, neg_ℤ, Bool, ◌&&◌, ◌||◌, nat_lt, nat_le, ◌==◌, List, [], ◌∷◌, length, drop, slice_index, Option, Some, None, option_map, if◌then◌else◌}
use Rattle.std.specs.Char.{is_ascii_digit}
use Rattle.std.specs.List.{list_all}

-- Returns the number of digits in base ten. Each digit counts times ten to the power of the number of digits
-- after it.
unfoldable pub decimal_value : List ℕ → ℕ
decimal_value [] = 0
decimal_value (digit ∷ behind) = (digit - 48) * 10 ^ length behind + decimal_value behind

-- Is true if the text is one ASCII digit or more, and nothing else.
abbrev pub are_digits : List ℕ → Bool
are_digits text = nat_lt 0 (length text) && list_all is_ascii_digit text

-- Returns the number that digits spell. An unsigned destination reads it in a text.
abbrev pub plain_number : List ℕ → Option ℕ
plain_number text = if are_digits text then Some (decimal_value text) else None

abbrev pub has_plus : List ℕ → Bool
has_plus text = slice_index text 0 == 43

abbrev pub has_minus : List ℕ → Bool
has_minus text = slice_index text 0 == 45

-- Returns what follows one plus or minus, or the whole text if it begins with neither.
abbrev pub without_sign : List ℕ → List ℕ
without_sign text = if has_plus text || has_minus text then drop 1 text else text

abbrev pub with_sign : Bool → ℕ → ℤ
with_sign negative n = if negative then neg_ℤ (pos n) else pos n

-- Returns the number that digits spell after a plus, a minus or no sign. A signed destination reads it in a
-- text.
abbrev pub signed_number : List ℕ → Option ℤ
signed_number text = option_map (with_sign (has_minus text)) (plain_number (without_sign text))

-- Is true if the number isn't above the greatest of a signed width, nor below its least. That is -(greatest + 1), and
-- negsuc n is -(n + 1).
abbrev pub fits_signed : ℕ → ℤ → Bool
fits_signed greatest (pos n) = nat_le n greatest
fits_signed greatest (negsuc n) = nat_le n greatest
