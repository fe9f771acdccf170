-- Proves which number of a connection, or of one of its driver calls, a word is. The argument rests on what std
-- says of `parse`.
use Rattle.std.proofs.Common.{◌≡◌, ◌≢◌, ℕ, ◌≤◌, ◌^◌, List, true, false, ◌&&◌, cond, get_or, leb, ltb, Option, Some, None, Result, Ok, Err, refl, ap, inl, inr}
use Rattle.std.specs.Result.{result_ok}
use Rattle.std.specs.Str.Parse.{ParsesUnsigned, digits_value}
use Rattle.std.proofs.lemmas.Bool.{and_right, le-leb, lt-ltb, le-ltb, cases_Bool, cases_lt}
use Rattle.std.proofs.lemmas.Result.{OkIff-at_ok, OkIff-at_err}
use Rattle.std.proofs.lemmas.Str.Parse.{parse_plain}
use Rattle.dsql_script_calls.specs.ScriptWords.{is_number, ordinal_of}
use Rattle.dsql_script_calls.proofs.ScriptClients.{own, number_from_digits, digits_of_number}
use Rattle.dsql_script_calls.proofs.ScriptLimits.{some_value}

-- Returns the ordinal with this number, if it isn't 0 and fits a u32.
abbrev ordinal_up_to : ℕ → Option ℕ
ordinal_up_to n = cond (leb 1 n && ltb n (2 ^ 32)) (Some n) None

numbered : (word : List ℕ) → is_number word ≡ true → ordinal_of word ≡ ordinal_up_to (digits_value 10 word)
numbered word is = rw is refl

-- A word that doesn't begin with `0` or `+` is the ordinal that `parse` reads it as.
pub ordinal_of-read : {E : Type 0} (word : List ℕ) (r : Result ℕ E) → get_or word 0 0 ≢ 48 → get_or word 0 0 ≢ 43 → ParsesUnsigned 32 10 word r → result_ok r ≡ ordinal_of word
ordinal_of-read {E = E} word (Ok n) other plus h =
    let r : Result ℕ E = Ok n in
    let read = OkIff-at_ok r _ _ n (parse_plain own 32 word r h plus) refl in
    let some = some_value word read.0.0 read.0.1 other in
    rw (numbered word (number_from_digits word other read.0.0 read.0.1), le-leb 1 (digits_value 10 word) some, lt-ltb (digits_value 10 word) (2 ^ 32) read.0.2) (ap Some read.1)
ordinal_of-read {E = E} word (Err e) other plus h =
    let r : Result ℕ E = Err e in
    let refused = OkIff-at_err r _ (digits_value 10 word) e (parse_plain own 32 word r h plus) refl in
    elim (cases_Bool (is_number word)) [
      | inl is ↦ let parts = digits_of_number word is in
          let large : 2 ^ 32 ≤ digits_value 10 word = elim (cases_lt (digits_value 10 word) (2 ^ 32)) [ inl few ↦ absurd (refused (parts.0, parts.1, few)) | inr more ↦ more ] in
          rw (numbered word is, le-ltb (digits_value 10 word) (2 ^ 32) large, and_right (leb 1 (digits_value 10 word)) false refl) refl
      | inr not ↦ rw not refl
    ]
