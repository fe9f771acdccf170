-- The definitions of digits and their number agree with the library's, which `parse` and printed numbers use.
-- The number is shown to weigh digits as the library does.
use Rattle.std.proofs.Common.{◌≡◌, ℕ, List, length, true, nat_lt, refl, rules}
use Rattle.std.specs.Char.{is_ascii_digit}
use Rattle.std.specs.List.{list_all}
use Rattle.std.specs.Str.Parse.{IsNumeral, digits_value}
use Rattle.std.proofs.lemmas.Bool.{and_parts, ltb-true}
use Rattle.std.proofs.lemmas.Str.Parse.{IsDigitsTest, IsNumeralModel, WeighsDigits, numerals_by_weight}
use Rattle.dsql_scan.specs.Numbers.{decimal_value, are_digits}

weighs : WeighsDigits decimal_value
unfolding decimal_value
weighs = record { empty = refl; more = λ c cs h. refl }

tests : IsDigitsTest (λ ds. list_all is_ascii_digit ds ≡ true)
tests = search rules

-- The digits and the number of the definitions are those of the library.
pub numerals : IsNumeralModel (λ ds. list_all is_ascii_digit ds ≡ true) decimal_value
numerals = numerals_by_weight (λ ds. list_all is_ascii_digit ds ≡ true) tests decimal_value weighs

pub only_digits : (ds : List ℕ) → are_digits ds ≡ true → list_all is_ascii_digit ds ≡ true
only_digits ds h = (and_parts (nat_lt 0 (length ds)) (list_all is_ascii_digit ds) h).1

pub IsNumeral-digits : (ds : List ℕ) → are_digits ds ≡ true → IsNumeral 10 ds
IsNumeral-digits ds h =
    let both = and_parts (nat_lt 0 (length ds)) (list_all is_ascii_digit ds) h in
    (ltb-true 0 (length ds) both.0, numerals.to ds both.1)

pub decimal_value-digits : (ds : List ℕ) → are_digits ds ≡ true → decimal_value ds ≡ digits_value 10 ds
decimal_value-digits ds h = numerals.same ds (IsNumeral-digits ds h).1
