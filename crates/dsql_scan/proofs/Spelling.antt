-- What `parse` reads in a text of digits, with a sign or without.
use Rattle.std.proofs.Common.{◌≡◌, ℕ, ℤ, pos, negsuc, ◌^◌, ◌<◌, ◌≤◌, true, List, length, get_or, eqb, Some, Result, Ok, Err, FitsSigned, w64, refl, sym, ap, ◌∙◌, subst, inl, inr, arith}
use Rattle.std.specs.Option.{option_map}
use Rattle.std.specs.Str.Parse.{IsNumeral, ParsesSigned, ParsesUnsigned, without_leading_sign, signed_digits_value, digits_value}
use Rattle.std.proofs.lemmas.Bool.{cases_Bool, leb-true, cond-false, cases_lt}
use Rattle.std.proofs.lemmas.Bool.Decides.{nat_tests}
use Rattle.std.proofs.lemmas.Result.{OkIff-at_ok, OkIff-at_err}
use Rattle.std.proofs.lemmas.Str.Parse.{parse_digits}
use Rattle.dsql_scan.specs.declared.fault.ScanFault.TheVariants as faults
use Rattle.dsql_scan.specs.Numbers.{decimal_value, are_digits, without_sign, with_sign, has_minus, plain_number, signed_number, fits_signed}
use Rattle.dsql_scan.specs.Table.{signed_cell_of, unsigned_cell, unsigned_cell_of}
use Rattle.dsql_scan.proofs.Digits.{numerals, only_digits, IsNumeral-digits, decimal_value-digits}

pub plain_number-digits : (text : List ℕ) → are_digits text ≡ true → plain_number text ≡ Some (decimal_value text)
plain_number-digits text h = rw h refl

-- An unsigned width doesn't hold a number above its greatest.
above_unsigned : (greatest n : ℕ) → greatest < n → unsigned_cell greatest n ≡ Err faults.OutOfRange
above_unsigned greatest n h = grind (arith, nat_tests)

pub plain_number-read : {E : Type 0} (text : List ℕ) (n : ℕ) (r : Result ℕ E) → ParsesUnsigned 64 10 text r → are_digits text ≡ true → r ≡ Ok n → plain_number text ≡ Some n
plain_number-read text n r h digits ok =
    let is = OkIff-at_ok r _ _ n (parse_digits numerals 64 text r h (only_digits text digits)) ok in
    plain_number-digits text digits ∙ ap Some (sym is.1)

pub unsigned-refused : {E : Type 0} (greatest : ℕ) (text : List ℕ) (r : Result ℕ E) (e : E) → greatest < 2 ^ 64 → ParsesUnsigned 64 10 text r → are_digits text ≡ true → r ≡ Err e → unsigned_cell_of greatest (plain_number text) ≡ Err faults.OutOfRange
unsigned-refused greatest text r e narrow h digits err =
    let only = only_digits text digits in
    let some : 0 < length text = (IsNumeral-digits text digits).0 in
    let no : (0 < length text) × (decimal_value text < 2 ^ 64) → ⊥ = OkIff-at_err r _ _ e (parse_digits numerals 64 text r h only) err in
    elim (cases_lt (decimal_value text) (2 ^ 64)) [
      | inl low ↦ absurd (no (some, low))
      | inr high ↦ ap (unsigned_cell_of greatest) (plain_number-digits text digits) ∙ above_unsigned greatest (decimal_value text) (omega arith)
    ]

without_sign-is : (text : List ℕ) → without_leading_sign text ≡ without_sign text
without_sign-is text =
    elim (cases_Bool (eqb (get_or text 0 0) 45)) [
      | inl m ↦ elim (cases_Bool (eqb (get_or text 0 0) 43)) [ inl p ↦ rw (m, p) refl | inr p ↦ rw (m, p) refl ]
      | inr m ↦ elim (cases_Bool (eqb (get_or text 0 0) 43)) [ inl p ↦ rw (m, p) refl | inr p ↦ rw (m, p) refl ]
    ]

signed_number-digits : (text : List ℕ) → are_digits (without_sign text) ≡ true → signed_number text ≡ Some (signed_digits_value 10 text)
signed_number-digits text digits =
    ap (option_map (with_sign (has_minus text))) (plain_number-digits (without_sign text) digits)
    ∙ ap (λ n. Some (with_sign (has_minus text) n)) (decimal_value-digits (without_sign text) digits ∙ ap (digits_value 10) (sym (without_sign-is text)))

pub signed_number-read : {E : Type 0} (text : List ℕ) (z : ℤ) (r : Result ℤ E) → ParsesSigned w64 10 text r → are_digits (without_sign text) ≡ true → r ≡ Ok z → signed_number text ≡ Some z
signed_number-read text z r h digits ok =
    let is = OkIff-at_ok r _ _ z h ok in
    signed_number-digits text digits ∙ ap Some (sym is.1)

FitsSigned-fits_signed : (greatest : ℕ) (z : ℤ) → greatest < 2 ^ 63 → fits_signed greatest z ≡ true → FitsSigned w64 z
FitsSigned-fits_signed greatest (pos n) narrow h = let le : n ≤ greatest = leb-true n greatest h in record { sfits = omega arith }
FitsSigned-fits_signed greatest (negsuc n) narrow h = let le : n ≤ greatest = leb-true n greatest h in record { sfits = omega arith }

pub signed-refused : {E : Type 0} (greatest : ℕ) (text : List ℕ) (r : Result ℤ E) (e : E) → greatest < 2 ^ 63 → ParsesSigned w64 10 text r → are_digits (without_sign text) ≡ true → r ≡ Err e → signed_cell_of greatest (signed_number text) ≡ Err faults.OutOfRange
signed-refused greatest text r e narrow h digits err =
    let z = signed_digits_value 10 text in
    let no : IsNumeral 10 (without_leading_sign text) × FitsSigned w64 z → ⊥ = OkIff-at_err r _ _ e h err in
    let numeral : IsNumeral 10 (without_leading_sign text) = subst (IsNumeral 10) (sym (without_sign-is text)) (IsNumeral-digits (without_sign text) digits) in
    elim (cases_Bool (fits_signed greatest z)) [
      | inl fits ↦ absurd (no (numeral, FitsSigned-fits_signed greatest z narrow fits))
      | inr not ↦ ap (signed_cell_of greatest) (signed_number-digits text digits) ∙ cond-false (fits_signed greatest z) _ _ not
    ]
