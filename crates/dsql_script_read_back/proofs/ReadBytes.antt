-- Proves that the hexadecimal digits that a report shows have no upper-case letter. The argument looks at each
-- digit.
use Rattle.std.proofs.Common.{◌≡◌, ℕ, zero, suc, ◌/◌, ◌%◌, List, [], ◌∷◌, Bool, true, false, ◌||◌, Some, get_or, refl, ap}
use Rattle.std.specs.Char.{is_ascii_uppercase}
use Rattle.std.specs.List.{list_any}
use Rattle.std.specs.Result.{result_ok}
use Rattle.hex.specs.Hex.{lower_digits, encode_with, encode_lower, IsBytes}
use Rattle.hex.proofs.HexLemmas.{decode_of-encode_lower}
use Rattle.dsql_script_forms.specs.ScriptArgs.{bytes_of}

neither : (a b : Bool) → (a || b) ≡ false → (a ≡ false) × (b ≡ false)
neither true b e = cc
neither false b e = (refl, e)

none_at : (digits : List ℕ) (i : ℕ) → list_any is_ascii_uppercase digits ≡ false → is_ascii_uppercase (get_or digits i 0) ≡ false
none_at [] i none = refl
none_at (d ∷ digits) zero none = (neither (is_ascii_uppercase d) (list_any is_ascii_uppercase digits) none).0
none_at (d ∷ digits) (suc i) none = none_at digits i (neither (is_ascii_uppercase d) (list_any is_ascii_uppercase digits) none).1

lower : (i : ℕ) → is_ascii_uppercase (get_or lower_digits i 0) ≡ false
lower i = none_at lower_digits i refl

no_upper_case : (bytes : List ℕ) → list_any is_ascii_uppercase (encode_lower bytes) ≡ false
unfolding encode_with
no_upper_case [] = refl
no_upper_case (b ∷ bytes) = rw (lower (b / 16), lower (b % 16)) (no_upper_case bytes)

pub bytes_are_read_back : (bytes : List ℕ) → IsBytes bytes → bytes_of (encode_lower bytes) ≡ Some bytes
bytes_are_read_back bytes small = rw (no_upper_case bytes) (ap result_ok (decode_of-encode_lower bytes small))
