-- Proves which client a word names, and which words are no token. The argument rests on what std says of
-- `parse`.
use Rattle.std.proofs.Common.{◌≡◌, ◌≢◌, ℕ, ◌<◌, ◌≤◌, List, [], ◌∷◌, Bool, true, false, ◌&&◌, ◌||◌, not, cond, length, get_or, eqb, leb, Option, Some, None, Result, Ok, Err, refl, ap, sym, ◌∙◌, inl, inr, arith}
use Rattle.std.specs.Str.{all_ascii_digits}
use Rattle.std.specs.Str.Parse.{ParsesUnsigned, digits_value}
use Rattle.std.proofs.lemmas.Bool.{ne_eqb, and_parts, and_right, lt-leb, ltb-true, lt-ltb, le-leb, cases_Bool, cases_lt}
use Rattle.std.proofs.lemmas.Result.{OkIff-at_ok, OkIff-at_err}
use Rattle.std.proofs.lemmas.Str.Parse.{IsNumeralModel, numerals_by_value, tells_all_ascii_digits, parse_plain}
use Rattle.dsql_script_calls.specs.ScriptWords.{begins_with, is_number, client_number, client_of, is_token, most_clients}

or_true : (b : Bool) → (b || true) ≡ true
or_true true = refl
or_true false = refl

pub begins_not : (byte : ℕ) (word : List ℕ) → ((rest : List ℕ) → word ≢ byte ∷ rest) → begins_with word (byte ∷ []) ≡ false
begins_not byte [] other = refl
begins_not byte (first ∷ rest) other = rw (ne_eqb byte first (λ e. other rest (ap (λ b. b ∷ rest) (sym e)))) refl

-- A word that doesn't begin with `c` names no client.
pub client_of_without : (word : List ℕ) → ((rest : List ℕ) → word ≢ 99 ∷ rest) → client_of word ≡ None
client_of_without word other = rw (begins_not 99 word other) refl

-- A word that doesn't begin with `@` names no token.
pub is_token_without : (word : List ℕ) → ((rest : List ℕ) → word ≢ 64 ∷ rest) → is_token word ≡ false
is_token_without word other = rw (begins_not 64 word other) refl

-- Digits that don't begin with `0` are a number.
pub number_from_digits : (digits : List ℕ) → get_or digits 0 0 ≢ 48 → all_ascii_digits digits ≡ true → 0 < length digits → is_number digits ≡ true
number_from_digits digits zero all some =
    let other = begins_not 48 digits (λ rest e. zero (ap (λ ds. get_or ds 0 0) e)) in
    rw (all, lt-ltb 0 (length digits) some, other) (or_true (eqb (length digits) 1))

pub digits_of_number : (digits : List ℕ) → is_number digits ≡ true → (all_ascii_digits digits ≡ true) × (0 < length digits)
digits_of_number digits is =
    let parts = and_parts _ _ (and_parts _ _ is).0 in
    (parts.0, ltb-true 0 (length digits) parts.1)

-- Returns the client with this number, if there is one.
abbrev pub client_up_to : ℕ → Option ℕ
client_up_to n = cond (leb 1 n && leb n most_clients) (Some n) None

numbered : (digits : List ℕ) → is_number digits ≡ true → client_number digits ≡ client_up_to (digits_value 10 digits)
numbered digits is = rw is refl

unnumbered : (digits : List ℕ) → is_number digits ≡ false → client_number digits ≡ None
unnumbered digits is = rw is refl

pub client_up_to_within : (n : ℕ) → 1 ≤ n → n ≤ most_clients → client_up_to n ≡ Some n
client_up_to_within n some few = rw (le-leb 1 n some, le-leb n most_clients few) refl

too_large : (n : ℕ) → most_clients < n → client_up_to n ≡ None
too_large n large = rw (lt-leb n most_clients large, and_right (leb 1 n) false refl) refl

pub own : IsNumeralModel (λ ds. all_ascii_digits ds ≡ true) (digits_value 10)
own = numerals_by_value _ tells_all_ascii_digits

-- If `parse` reads digits that don't begin with `0` or `+` as n, the digits name client n, unless there is no
-- such client. If it refuses digits that don't begin with `+`, they name no client.
pub client_number-ok : {E : Type 0} (digits : List ℕ) (r : Result ℕ E) (n : ℕ) → ParsesUnsigned 8 10 digits r → get_or digits 0 0 ≢ 48 → get_or digits 0 0 ≢ 43 → r ≡ Ok n → client_number digits ≡ client_up_to n
client_number-ok digits r n h zero plus e =
    let read = OkIff-at_ok r _ _ n (parse_plain own 8 digits r h plus) e in
    rw read.1 (numbered digits (number_from_digits digits zero read.0.0 read.0.1))

pub client_number-err : {E : Type 0} (digits : List ℕ) (r : Result ℕ E) (x : E) → ParsesUnsigned 8 10 digits r → get_or digits 0 0 ≢ 43 → r ≡ Err x → client_number digits ≡ None
client_number-err digits r x h plus e =
    let refused = OkIff-at_err r _ _ x (parse_plain own 8 digits r h plus) e in
    elim (cases_Bool (is_number digits)) [
      | inl is ↦ let parts = digits_of_number digits is in
          let large : most_clients < digits_value 10 digits = elim (cases_lt most_clients (digits_value 10 digits)) [ inl more ↦ more | inr few ↦ absurd (refused (parts.0, parts.1, omega arith)) ] in
          numbered digits is ∙ too_large (digits_value 10 digits) large
      | inr not ↦ unnumbered digits not
    ]
