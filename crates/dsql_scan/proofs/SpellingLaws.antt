-- Which texts spell numbers, by cases on the text's sign, and that decimal texts do.
use Rattle.std.proofs.Common.{◌≡◌, ℕ, ◌+◌, ◌-◌, ◌*◌, ◌^◌, ◌<◌, ℤ, pos, negsuc, neg_ℤ, suc, Bool, true, false, ◌||◌, leb, List, [], ◌∷◌, ◌++◌, length, get_or, drop, eqb, FitsSigned, w64, Option, Some, None, refl, sym, ap, ◌∙◌, subst, inl, inr, arith, add-one}
use Rattle.std.proofs.Math.Nat.{pow-suc, mul_assoc}
use Rattle.std.specs.Char.{IsAsciiDigit, is_ascii_digit}
use Rattle.std.specs.Fmt.{decimal, signed_decimal}
use Rattle.std.specs.List.{list_all}
use Rattle.std.specs.Option.{option_map}
use Rattle.std.proofs.lemmas.Bool.{cases_Bool, cond-true, cond-false, and_parts, lt-ltb, leb-true, le-leb, eqb-true, ne_eqb}
use Rattle.std.proofs.lemmas.Fmt.{digits_decimal, digits_value-decimal, decimal_nonempty}
use Rattle.std.proofs.lemmas.List.{length_push}
use Rattle.std.proofs.lemmas.List.Sums.{AllPass-from_list_all, list_all-from_AllPass}
use Rattle.dsql_scan.specs.Numbers.{decimal_value, are_digits, plain_number, signed_number, without_sign, with_sign, has_plus, has_minus}
use Rattle.dsql_scan.specs.Table.{signed_cell_of}
use Rattle.dsql_scan.specs.Laws.{IsDecimal, Spells, SpellsSigned, OnlyDigitsSpell, DecimalsAreReadBack}
use Rattle.dsql_scan.proofs.Digits.{numerals, only_digits, IsNumeral-digits}
use Rattle.dsql_scan.proofs.Spelling.{plain_number-digits}

decimal_value-last : (front : List ℕ) (digit : ℕ) → decimal_value (front ++ digit ∷ []) ≡ decimal_value front * 10 + (digit - 48)
unfolding decimal_value
decimal_value-last [] digit = omega arith
decimal_value-last (first ∷ front) digit =
    let weight : 10 ^ length (front ++ digit ∷ []) ≡ 10 ^ length front * 10 = ap (λ k. 10 ^ k) (length_push front digit ∙ add-one (length front)) ∙ pow-suc 10 (length front) in
    let whole : (first - 48) * 10 ^ length (front ++ digit ∷ []) ≡ (first - 48) * 10 ^ length front * 10 = ap (λ w. (first - 48) * w) weight ∙ sym (mul_assoc (first - 48) (10 ^ length front) 10) in
    omega (arith, whole, decimal_value-last front digit)

pub decimal_value-IsDecimal : IsDecimal decimal_value
unfolding decimal_value
decimal_value-IsDecimal = record { none = refl; last = decimal_value-last; leading_zero = λ digits. omega arith }

is_ascii_digit-IsAsciiDigit : (c : ℕ) → is_ascii_digit c ≡ true → IsAsciiDigit c
is_ascii_digit-IsAsciiDigit c h = let both = and_parts (leb 48 c) (leb c 57) h in (leb-true 48 c both.0, leb-true c 57 both.1)

IsAsciiDigit-is_ascii_digit : (c : ℕ) → IsAsciiDigit c → is_ascii_digit c ≡ true
IsAsciiDigit-is_ascii_digit c h = rw (le-leb 48 c h.0, le-leb c 57 h.1) refl

Spells-are_digits : (text : List ℕ) → are_digits text ≡ true → Spells text (decimal_value text)
Spells-are_digits text h =
    record {
      some = (IsNumeral-digits text h).0;
      digits = λ k d inside. is_ascii_digit-IsAsciiDigit (get_or text k d) (AllPass-from_list_all is_ascii_digit text (only_digits text h) k d inside);
      value = refl;
    }

are_digits-Spells : (text : List ℕ) (n : ℕ) → Spells text n → are_digits text ≡ true
are_digits-Spells text n s =
    let all : list_all is_ascii_digit text ≡ true = list_all-from_AllPass is_ascii_digit text (λ k d inside. IsAsciiDigit-is_ascii_digit (get_or text k d) (s.digits k d inside)) in
    rw (lt-ltb 0 (length text) s.some) all

-- A text that is read as a number spells it.
plain-spelled : (text : List ℕ) (n : ℕ) → plain_number text ≡ Some n → Spells text n
plain-spelled text n h =
    elim (cases_Bool (are_digits text)) [
      | inl digits ↦
          let same : Some (decimal_value text) ≡ Some n = sym (plain_number-digits text digits) ∙ h in
          let value : decimal_value text ≡ n = cc in
          subst (Spells text) value (Spells-are_digits text digits)
      | inr other ↦
          let none : plain_number text ≡ None = cond-false (are_digits text) (Some (decimal_value text)) None other in
          let absent : None ≡ Some n = sym none ∙ h in
          cc
    ]

plain-read : (text : List ℕ) (n : ℕ) → Spells text n → plain_number text ≡ Some n
plain-read text n s = plain_number-digits text (are_digits-Spells text n s) ∙ ap Some s.value

from_map : {A B : Type 0} (f : A → B) (o : Option A) (y : B) → option_map f o ≡ Some y → (x : A) × (o ≡ Some x) × (f x ≡ y)
from_map f None y h = cc
from_map f (Some x) y h = (x, refl, cc)

-- A text that begins with this byte is the byte followed by the rest of the text.
first_and_rest : (text : List ℕ) (first : ℕ) → 0 < first → get_or text 0 0 ≡ first → text ≡ first ∷ drop 1 text
first_and_rest [] first some h = absurd (omega arith)
first_and_rest (c ∷ rest) first some h = ap (λ x. x ∷ rest) h

after_sign : (text : List ℕ) → has_plus text || has_minus text ≡ true → without_sign text ≡ drop 1 text
after_sign text h = cond-true (has_plus text || has_minus text) (drop 1 text) text h

or_left : (a b : Bool) → a ≡ true → a || b ≡ true
or_left true b h = refl
or_left false b h = cc

or_right : (a b : Bool) → b ≡ true → a || b ≡ true
or_right true b h = refl
or_right false b h = h

without_sign-bare : (text : List ℕ) → has_plus text ≡ false → has_minus text ≡ false → without_sign text ≡ text
without_sign-bare text plus minus = cond-false (has_plus text || has_minus text) (drop 1 text) text (ap (λ p. p || has_minus text) plus ∙ minus)

signed-spelled : (text : List ℕ) (z : ℤ) → signed_number text ≡ Some z → SpellsSigned text z
signed-spelled text z h =
    let read = from_map (with_sign (has_minus text)) (plain_number (without_sign text)) z h in
    let spelled = plain-spelled (without_sign text) read.0 read.1 in
    elim (cases_Bool (has_minus text)) [
      | inl minus ↦
          let signed : has_plus text || has_minus text ≡ true = or_right (has_plus text) (has_minus text) minus in
          let split : text ≡ 45 ∷ without_sign text = first_and_rest text 45 (omega arith) (eqb-true (get_or text 0 0) 45 minus) ∙ ap (λ rest. 45 ∷ rest) (sym (after_sign text signed)) in
          let value : z ≡ neg_ℤ (pos read.0) = sym read.2 ∙ ap (λ m. with_sign m read.0) minus in
          record { digits = without_sign text; number = read.0; spelled = spelled; signed = inr (inr (split, value)) }
      | inr none ↦
          let value : z ≡ pos read.0 = sym read.2 ∙ ap (λ m. with_sign m read.0) none in
          elim (cases_Bool (has_plus text)) [
            | inl plus ↦
                let signed : has_plus text || has_minus text ≡ true = or_left (has_plus text) (has_minus text) plus in
                let split : text ≡ 43 ∷ without_sign text = first_and_rest text 43 (omega arith) (eqb-true (get_or text 0 0) 43 plus) ∙ ap (λ rest. 43 ∷ rest) (sym (after_sign text signed)) in
                record { digits = without_sign text; number = read.0; spelled = spelled; signed = inr (inl (split, value)) }
            | inr bare ↦
                record { digits = without_sign text; number = read.0; spelled = spelled; signed = inl (sym (without_sign-bare text bare none), value) }
          ]
    ]

-- A text of digits doesn't begin with a sign.
no_sign : (text : List ℕ) (n sign : ℕ) → Spells text n → sign < 48 → eqb (get_or text 0 0) sign ≡ false
no_sign text n sign s low =
    let first = s.digits 0 0 s.some in
    ne_eqb (get_or text 0 0) sign (λ e. omega (arith, first.0))

bare-read : (text : List ℕ) (n : ℕ) → Spells text n → signed_number text ≡ Some (pos n)
bare-read text n s =
    let plus : has_plus text ≡ false = no_sign text n 43 s (omega arith) in
    let minus : has_minus text ≡ false = no_sign text n 45 s (omega arith) in
    ap (λ m. option_map (with_sign m) (plain_number (without_sign text))) minus
    ∙ ap (λ t. option_map (with_sign false) (plain_number t)) (without_sign-bare text plus minus)
    ∙ ap (option_map (with_sign false)) (plain-read text n s)

signed-read : (text : List ℕ) (z : ℤ) → SpellsSigned text z → signed_number text ≡ Some z
signed-read text z s =
    elim s.signed [
      | inl bare ↦ subst (λ t. signed_number t ≡ Some z) (sym bare.0) (bare-read s.digits s.number s.spelled ∙ ap Some (sym bare.1))
      | inr (inl plus) ↦ subst (λ t. signed_number t ≡ Some z) (sym plus.0) (ap (option_map (with_sign false)) (plain-read s.digits s.number s.spelled) ∙ ap Some (sym plus.1))
      | inr (inr minus) ↦ subst (λ t. signed_number t ≡ Some z) (sym minus.0) (ap (option_map (with_sign true)) (plain-read s.digits s.number s.spelled) ∙ ap Some (sym minus.1))
    ]

pub only_digits_spell : OnlyDigitsSpell
only_digits_spell = record { plain = λ text n. (plain-spelled text n, plain-read text n); signed = λ text z. (signed-spelled text z, signed-read text z) }

are_digits-decimal : (n : ℕ) → n < 2 ^ 64 → are_digits (decimal n) ≡ true
are_digits-decimal n h = rw (lt-ltb 0 (length (decimal n)) (decimal_nonempty n h)) (digits_decimal numerals n h)

Spells-decimal : (n : ℕ) → n < 2 ^ 64 → Spells (decimal n) n
Spells-decimal n h = subst (Spells (decimal n)) (digits_value-decimal numerals n h) (Spells-are_digits (decimal n) (are_digits-decimal n h))

signed_number-decimal : (z : ℤ) → FitsSigned w64 z → signed_number (signed_decimal z) ≡ Some z
signed_number-decimal (pos n) h = signed-read (decimal n) (pos n) (record { digits = decimal n; number = n; spelled = Spells-decimal n (omega arith); signed = inl (refl, refl) })
signed_number-decimal (negsuc n) h = signed-read (45 ∷ decimal (suc n)) (negsuc n) (record { digits = decimal (suc n); number = suc n; spelled = Spells-decimal (suc n) (omega arith); signed = inr (inr (refl, refl)) })

pub decimals_are_read_back : DecimalsAreReadBack
decimals_are_read_back =
    record {
      plain = λ n h. plain-read (decimal n) n (Spells-decimal n h);
      signed = signed_number-decimal;
      scanned = λ z h. ap (signed_cell_of 9223372036854775807) (signed_number-decimal z h);
    }
