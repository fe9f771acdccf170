-- Proves which moment a word is. The argument rests on what std says of `parse`.
use Rattle.std.proofs.Common.{◌≡◌, ◌≢◌, ℕ, ◌≤◌, ◌^◌, List, [], ◌∷◌, true, cond, get_or, ltb, codes, Option, Some, None, Result, Ok, Err, refl, ap, inl, inr, arith}
use Rattle.std.specs.Result.{result_ok}
use Rattle.std.specs.Str.Parse.{ParsesUnsigned, digits_value}
use Rattle.std.proofs.lemmas.Bool.{lt-ltb, le-ltb, cases_Bool, cases_lt}
use Rattle.std.proofs.lemmas.Result.{OkIff-at_ok, OkIff-at_err}
use Rattle.std.proofs.lemmas.Str.Parse.{parse_plain}
use Rattle.dsql_script_calls.specs.ScriptWords.{is_number, moment_of}
use Rattle.dsql_script_calls.proofs.ScriptClients.{own, number_from_digits, digits_of_number}
use Rattle.dsql_script_calls.proofs.ScriptLimits.{padded}

-- Returns the moment with this number, if it fits a u64.
abbrev moment_up_to : ℕ → Option ℕ
moment_up_to n = cond (ltb n (2 ^ 64)) (Some n) None

numbered : (word : List ℕ) → is_number word ≡ true → moment_of word ≡ moment_up_to (digits_value 10 word)
numbered word is = rw is refl

-- A word with a needless `0` is no moment.
pub moment_of-padded : (word : List ℕ) → get_or word 0 0 ≡ 48 → word ≢ codes "0" → moment_of word ≡ None
moment_of-padded word zero other = rw (padded word zero other) refl

-- A word with a plus is no moment.
pub moment_of-plus : (word : List ℕ) → get_or word 0 0 ≡ 43 → moment_of word ≡ None
moment_of-plus [] plus = absurd (omega arith)
moment_of-plus (first ∷ rest) plus = rw plus refl

-- A word that doesn't begin with `0` or `+` is the moment that `parse` reads it as.
pub moment_of-read : {E : Type 0} (word : List ℕ) (r : Result ℕ E) → get_or word 0 0 ≢ 48 → get_or word 0 0 ≢ 43 → ParsesUnsigned 64 10 word r → result_ok r ≡ moment_of word
moment_of-read {E = E} word (Ok n) other plus h =
    let r : Result ℕ E = Ok n in
    let read = OkIff-at_ok r _ _ n (parse_plain own 64 word r h plus) refl in
    rw (numbered word (number_from_digits word other read.0.0 read.0.1), lt-ltb (digits_value 10 word) (2 ^ 64) read.0.2) (ap Some read.1)
moment_of-read {E = E} word (Err e) other plus h =
    let r : Result ℕ E = Err e in
    let refused = OkIff-at_err r _ (digits_value 10 word) e (parse_plain own 64 word r h plus) refl in
    elim (cases_Bool (is_number word)) [
      | inl is ↦ let parts = digits_of_number word is in
          let large : 2 ^ 64 ≤ digits_value 10 word = elim (cases_lt (digits_value 10 word) (2 ^ 64)) [ inl few ↦ absurd (refused (parts.0, parts.1, few)) | inr more ↦ more ] in
          rw (numbered word is, le-ltb (digits_value 10 word) (2 ^ 64) large) refl
      | inr not ↦ rw not refl
    ]
