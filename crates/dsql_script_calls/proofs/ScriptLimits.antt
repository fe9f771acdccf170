-- Proves which number a limit's word is. The argument rests on what std says of `parse`.
use Rattle.std.proofs.Common.{◌≡◌, ◌≢◌, ℕ, ◌<◌, ◌≤◌, ◌^◌, List, [], ◌∷◌, true, false, ◌&&◌, ◌||◌, cond, length, get_or, eqb, leb, ltb, codes, Option, Some, None, unwrap_or, Result, Ok, Err, refl, ap, inl, inr, arith, Bor}
use Rattle.std.specs.Option.{MatchOption}
use Rattle.std.specs.Prelude.{ℤ, pos, neg_ℤ}
use Rattle.std.specs.Int.{w64}
use Rattle.std.specs.Result.{result_ok}
use Rattle.std.specs.Str.{all_ascii_digits}
use Rattle.std.specs.Str.Parse.{ParsesSigned, digits_value}
use Rattle.std.proofs.lemmas.Bool.{ne_eqb, and_right, lt-leb, lt-ltb, le-leb, le-ltb, cases_Bool, cases_lt}
use Rattle.std.proofs.lemmas.Result.{OkIff-at_ok, OkIff-at_err}
use Rattle.std.proofs.lemmas.Str.{digit_value_digit}
use Rattle.std.proofs.lemmas.Str.Parse.{digit_at, digits_value-take-le, parse_signed_minus, parse_signed_plain}
use Rattle.dsql_script_calls.specs.ScriptWords.{is_number, from_zero, below_zero, limit_of}
use Rattle.dsql_script_calls.proofs.ScriptClients.{own, number_from_digits, digits_of_number, begins_not}

-- Digits that don't begin with `0` aren't the digits of 0.
pub some_value : (digits : List ℕ) → all_ascii_digits digits ≡ true → 0 < length digits → get_or digits 0 0 ≢ 48 → 1 ≤ digits_value 10 digits
some_value [] all some other = absurd (omega arith)
some_value (first ∷ rest) all some other =
    let digit = digit_at (first ∷ rest) 0 (own.to (first ∷ rest) all) some in
    let value = digit_value_digit first digit in
    let least : digits_value 10 (first ∷ []) ≤ digits_value 10 (first ∷ rest) = digits_value-take-le 10 (first ∷ rest) 1 (omega arith) in
    omega (arith, digit, value, least, other)

-- Returns the limit with this number, or in `minus_up_to` with its negative. The result is `None` if that
-- doesn't fit an i64, or if a negative is that of 0.
abbrev number_up_to : ℕ → Option ℤ
number_up_to n = cond (ltb n (2 ^ 63)) (Some (pos n)) None

abbrev minus_up_to : ℕ → Option ℤ
minus_up_to n = cond (leb 1 n && leb n (2 ^ 63)) (Some (neg_ℤ (pos n))) None

numbered : (digits : List ℕ) → is_number digits ≡ true → from_zero digits ≡ number_up_to (digits_value 10 digits)
numbered digits is = rw is refl

minus_numbered : (digits : List ℕ) → is_number digits ≡ true → below_zero digits ≡ minus_up_to (digits_value 10 digits)
minus_numbered digits is = rw is refl

-- A word that doesn't begin with `+`, `-` or `0` is the number that `parse` reads it as. So is a minus with
-- digits after it that don't begin with `0`.
pub from_zero-read : {E : Type 0} (word : List ℕ) (r : Result ℤ E) → ParsesSigned w64 10 word r → get_or word 0 0 ≢ 43 → get_or word 0 0 ≢ 45
    → get_or word 0 0 ≢ 48 → result_ok r ≡ from_zero word
from_zero-read {E = E} word (Ok z) h plus minus other =
    let r : Result ℤ E = Ok z in
    let read = OkIff-at_ok r _ _ z (parse_signed_plain own w64 word r h plus minus) refl in
    rw (numbered word (number_from_digits word other read.0.0 read.0.1), lt-ltb (digits_value 10 word) (2 ^ 63) read.0.2) (ap Some read.1)
from_zero-read {E = E} word (Err e) h plus minus other =
    let r : Result ℤ E = Err e in
    let refused = OkIff-at_err r _ (pos (digits_value 10 word)) e (parse_signed_plain own w64 word r h plus minus) refl in
    elim (cases_Bool (is_number word)) [
      | inl is ↦ let parts = digits_of_number word is in
          let large : 2 ^ 63 ≤ digits_value 10 word = elim (cases_lt (digits_value 10 word) (2 ^ 63)) [ inl few ↦ absurd (refused (parts.0, parts.1, few)) | inr more ↦ more ] in
          rw (numbered word is, le-ltb (digits_value 10 word) (2 ^ 63) large) refl
      | inr not ↦ rw not refl
    ]

pub below_zero-read : {E : Type 0} (digits : List ℕ) (r : Result ℤ E) → ParsesSigned w64 10 (45 ∷ digits) r → get_or digits 0 0 ≢ 48 → result_ok r ≡ below_zero digits
below_zero-read {E = E} digits (Ok z) h other =
    let r : Result ℤ E = Ok z in
    let read = OkIff-at_ok r _ _ z (parse_signed_minus own w64 (45 ∷ digits) r h refl) refl in
    let some = some_value digits read.0.0 read.0.1 other in
    rw (minus_numbered digits (number_from_digits digits other read.0.0 read.0.1), le-leb 1 (digits_value 10 digits) some, le-leb (digits_value 10 digits) (2 ^ 63) read.0.2) (ap Some read.1)
below_zero-read {E = E} digits (Err e) h other =
    let r : Result ℤ E = Err e in
    let refused = OkIff-at_err r _ (neg_ℤ (pos (digits_value 10 digits))) e (parse_signed_minus own w64 (45 ∷ digits) r h refl) refl in
    elim (cases_Bool (is_number digits)) [
      | inl is ↦ let parts = digits_of_number digits is in
          let large : 2 ^ 63 < digits_value 10 digits = elim (cases_lt (2 ^ 63) (digits_value 10 digits)) [ inl more ↦ more | inr few ↦ absurd (refused (parts.0, parts.1, few)) ] in
          rw (minus_numbered digits is, lt-leb (digits_value 10 digits) (2 ^ 63) large, and_right (leb 1 (digits_value 10 digits)) false refl) refl
      | inr not ↦ rw not refl
    ]

-- Holds if `strip_prefix` of a minus gives this for the word: what follows the minus, or `None` if the word has
-- no minus.
abbrev pub IsStripped : Bor (List ℕ) → Option (Bor (List ℕ)) → Type 0
IsStripped word stripped = MatchOption stripped ((rest : List ℕ) → word.now ≢ 45 ∷ rest) (λ x. word.now ≡ 45 ∷ x.now)

without_minus : (word : List ℕ) → ((rest : List ℕ) → word ≢ 45 ∷ rest) → get_or word 0 0 ≢ 45
without_minus [] none = λ e. absurd (omega arith)
without_minus (first ∷ rest) none = λ e. none rest (ap (λ b. b ∷ rest) e)

-- Digits that begin with `0` are no number, unless they are `0`.
pub padded : (digits : List ℕ) → get_or digits 0 0 ≡ 48 → digits ≢ codes "0" → is_number digits ≡ false
padded [] zero other = absurd (omega arith)
padded (first ∷ []) zero other = absurd (other (ap (λ b. b ∷ []) zero))
padded (first ∷ second ∷ rest) zero other =
    let digits = 48 ∷ second ∷ rest in
    let longer : eqb (length digits) 1 ≡ false = ne_eqb (length digits) 1 (λ one. absurd (omega arith)) in
    let needless : (eqb (length digits) 1 || false) ≡ false = rw longer refl in
    rw zero (and_right (all_ascii_digits digits && ltb 0 (length digits)) (eqb (length digits) 1 || false) needless)

padded_from_zero : (word : List ℕ) → get_or word 0 0 ≡ 48 → word ≢ codes "0" → from_zero word ≡ None
padded_from_zero word zero other = rw (padded word zero other) refl

padded_below_zero : (digits : List ℕ) → get_or digits 0 0 ≡ 48 → below_zero digits ≡ None
padded_below_zero [] zero = absurd (omega arith)
padded_below_zero (first ∷ []) zero = rw zero refl
padded_below_zero (first ∷ second ∷ rest) zero = rw (padded (first ∷ second ∷ rest) zero (λ e. absurd cc)) refl

-- A word with a needless `0` is no limit.
pub limit_of-padded : (word : Bor (List ℕ)) (stripped : Option (Bor (List ℕ))) → IsStripped word stripped → get_or (unwrap_or stripped word).now 0 0 ≡ 48 → word.now ≢ codes "0" → limit_of word.now ≡ None
limit_of-padded word None none zero other = rw (begins_not 45 word.now none) (padded_from_zero word.now zero other)
limit_of-padded word (Some x) is zero other = rw is (padded_below_zero x.now zero)

-- A word with a plus is no limit.
pub limit_of-plus : (word : List ℕ) → get_or word 0 0 ≡ 43 → limit_of word ≡ None
limit_of-plus [] plus = absurd (omega arith)
limit_of-plus (first ∷ rest) plus = rw plus refl

-- A word is the limit that `parse` reads it as, unless it begins with a plus, or its digits begin with `0`.
pub limit_of-read : {E : Type 0} (word : Bor (List ℕ)) (stripped : Option (Bor (List ℕ))) (r : Result ℤ E) → IsStripped word stripped → get_or (unwrap_or stripped word).now 0 0 ≢ 48
    → get_or word.now 0 0 ≢ 43 → ParsesSigned w64 10 word.now r → result_ok r ≡ limit_of word.now
limit_of-read word None r none other plus h =
    rw (begins_not 45 word.now none) (from_zero-read word.now r h plus (without_minus word.now none) other)
limit_of-read word (Some x) r is other plus h = rw is (below_zero-read x.now r (rw is at h) other)
