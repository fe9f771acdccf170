-- Bytes that are no text spell neither a number nor a truth. Digits and signs are ASCII, and each spelling of a
-- truth is UTF-8.
use Rattle.std.proofs.Common.{◌≡◌, ℕ, ◌<◌, suc, zero, true, false, ◌||◌, List, [], ◌∷◌, eqb, cond, Some, None, Ok, refl, sym, ap, subst, inl, inr, arith}
use lib.Utf8.{encode}
use Rattle.std.specs.List.{list_all}
use Rattle.std.specs.Option.{option_map}
use Rattle.std.specs.Str.{IsUtf8, IsAscii, is_utf8, bytes_eq, chars}
use Rattle.std.proofs.lemmas.Bool.{cases_Bool, and_parts, false_from_ne_true}
use Rattle.std.proofs.lemmas.Bool.Decides.{nat_tests}
use Rattle.std.proofs.lemmas.Fmt.{IsAscii-from_digits}
use Rattle.std.proofs.lemmas.Slice.Eq.{bytes_eq-Decides}
use Rattle.std.proofs.lemmas.Str.{IsUtf8-from_ascii, IsUtf8-from_is_utf8, is_utf8-from_IsUtf8}
use Rattle.dsql_scan.specs.declared.cell.Cell.TheVariants as cells
use Rattle.dsql_scan.specs.Numbers.{decimal_value, are_digits, without_sign, with_sign, has_minus, plain_number, signed_number}
use Rattle.dsql_scan.specs.Table.{decoded}
use Rattle.dsql_scan.specs.Truths.{true_spellings, false_spellings, is_among, spelled_truth}
use Rattle.dsql_scan.proofs.Digits.{IsNumeral-digits}

pub is_utf8-not : (bytes : List ℕ) → ¬ (IsUtf8 bytes) → is_utf8 bytes ≡ false
is_utf8-not bytes bad = false_from_ne_true (is_utf8 bytes) (λ is. bad (IsUtf8-from_is_utf8 bytes is))

pub decoded-text : (bytes : List ℕ) → IsUtf8 bytes → decoded bytes ≡ Ok (cells.Text bytes)
decoded-text bytes text = rw (is_utf8-from_IsUtf8 bytes text) refl

IsAscii-digits : (bytes : List ℕ) → are_digits bytes ≡ true → IsAscii bytes
IsAscii-digits bytes h = IsAscii-from_digits bytes (IsNumeral-digits bytes h).1

are_digits-not : (bytes : List ℕ) → ¬ (IsUtf8 bytes) → are_digits bytes ≡ false
are_digits-not bytes bad = false_from_ne_true (are_digits bytes) (λ is. bad (IsUtf8-from_ascii bytes (IsAscii-digits bytes is)))

pub plain_number-not : (bytes : List ℕ) → ¬ (IsUtf8 bytes) → plain_number bytes ≡ None
plain_number-not bytes bad = rw (are_digits-not bytes bad) refl

-- A sign is ASCII.
first_is_sign : (first : ℕ) → (eqb first 43 || eqb first 45) ≡ true → first < 128
first_is_sign first h = grind (arith, nat_tests)

IsAscii-push : (first : ℕ) (rest : List ℕ) → first < 128 → IsAscii rest → IsAscii (first ∷ rest)
IsAscii-push first rest h ascii zero = h
IsAscii-push first rest h ascii (suc i) = ascii i

IsAscii-without_sign : (bytes : List ℕ) → IsAscii (without_sign bytes) → IsAscii bytes
IsAscii-without_sign [] ascii = ascii
IsAscii-without_sign (first ∷ rest) ascii =
    elim (cases_Bool (eqb first 43 || eqb first 45)) [
      | inl sign ↦ IsAscii-push first rest (first_is_sign first sign) (rw sign at ascii)
      | inr bad ↦ rw bad at ascii
    ]

pub signed_number-not : (bytes : List ℕ) → ¬ (IsUtf8 bytes) → signed_number bytes ≡ None
signed_number-not bytes bad =
    let not : are_digits (without_sign bytes) ≡ false = false_from_ne_true (are_digits (without_sign bytes)) (λ is. bad (IsUtf8-from_ascii bytes (IsAscii-without_sign bytes (IsAscii-digits (without_sign bytes) is)))) in
    ap (λ digits. option_map (with_sign (has_minus bytes)) (cond digits (Some (decimal_value (without_sign bytes))) None)) not

is_among-not : (spellings : List (List ℕ)) (bytes : List ℕ) → ¬ (IsUtf8 bytes) → list_all is_utf8 spellings ≡ true → is_among spellings bytes ≡ false
is_among-not [] bytes bad all = refl
is_among-not (spelling ∷ others) bytes bad all =
    let both = and_parts (is_utf8 spelling) (list_all is_utf8 others) all in
    let differs : bytes_eq bytes spelling ≡ false = false_from_ne_true (bytes_eq bytes spelling) (λ same. bad (subst IsUtf8 (sym ((bytes_eq-Decides bytes spelling).0 same)) (IsUtf8-from_is_utf8 spelling both.0))) in
    rw differs (is_among-not others bytes bad both.1)

true_spellings-utf8 : list_all is_utf8 true_spellings ≡ true
unfolding is_utf8 chars encode
true_spellings-utf8 = refl

false_spellings-utf8 : list_all is_utf8 false_spellings ≡ true
unfolding is_utf8 chars encode
false_spellings-utf8 = refl

pub spelled_truth-not : (bytes : List ℕ) → ¬ (IsUtf8 bytes) → spelled_truth bytes ≡ None
spelled_truth-not bytes bad =
    rw (is_among-not true_spellings bytes bad true_spellings-utf8, is_among-not false_spellings bytes bad false_spellings-utf8) refl
