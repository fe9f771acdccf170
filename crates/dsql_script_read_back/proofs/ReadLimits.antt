-- A limit's word and number are read as this limit: the proof distinguishes the sign of the number.
use Rattle.std.proofs.Common.{◌≡◌, ◌≢◌, ℕ, suc, ◌<◌, ◌≤◌, ◌^◌, ℤ, pos, negsuc, List, [], ◌∷◌, ◌++◌, false, ◌==◌, codes, decimal, FitsSigned, Some, None, Ok, refl, ap, ◌∙◌, subst, arith}
use Rattle.std.specs.Int.{w64}
use Rattle.std.specs.Char.{is_ascii_digit}
use Rattle.std.specs.Str.Parse.{AllDigits}
use Rattle.std.proofs.lemmas.Bool.{le-leb, lt-ltb}
use Rattle.std.proofs.lemmas.Fmt.{decimal_is_IsNumeral, digits_decimal, digits_value-decimal}
use Rattle.std.proofs.lemmas.Str.Parse.{digit_from_value}
use Rattle.serde_json.specs.Written.{compact_text}
use Rattle.dsql_history.specs.declared.event.Setting.{Setting}
use Rattle.dsql_history.specs.declared.event.Setting.TheVariants.{MaxOpen, MaxIdle, MaxLife, MaxIdleTime}
use Rattle.dsql_history.specs.declared.event.Control.TheVariants.{Set}
use Rattle.dsql_script_spelling.specs.LineValues.{integer}
use Rattle.dsql_script_report.specs.Lines.{limit_word}
use Rattle.dsql_script_reader.specs.declared.script.Head.{Head}
use Rattle.dsql_script_reader.specs.declared.script.ScriptLine.TheVariants as script
use Rattle.dsql_script_reader.specs.ScriptLines.{form_of, text_of, is_skipped}
use Rattle.dsql_script_calls.specs.ScriptWords.{limit_of, space, spaced_words}
use Rattle.dsql_script_calls.proofs.ScriptClients.{own, begins_not}
use Rattle.dsql_script_read_back.specs.ReadBack.{limit_text}
use Rattle.dsql_script_read_back.proofs.LineParts.{is_told, alone, without_array}
use Rattle.dsql_script_read_back.proofs.ReadClients.{decimal_is_number}
use Rattle.dsql_script_read_back.proofs.WordBytes.{Lacks, bracket, lacks_first, lacks_digits}

without_minus : (n : ℕ) → n < 2 ^ 64 → (rest : List ℕ) → decimal n ≢ 45 ∷ rest
without_minus n small rest e = omega (arith, digit_from_value 45 (subst (AllDigits 10) e (decimal_is_IsNumeral n small).0.1).0)

number_is_read : (n : ℤ) → FitsSigned w64 n → limit_of (compact_text (integer n)) ≡ Some n
number_is_read (pos n) fits =
    let few : n < 2 ^ 63 = omega (arith, fits.sfits) in
    let small : n < 2 ^ 64 = omega arith in
    rw (begins_not 45 (decimal n) (without_minus n small), decimal_is_number n small, digits_value-decimal own n small, lt-ltb n (2 ^ 63) few) refl
number_is_read (negsuc n) fits =
    let few : suc n ≤ 2 ^ 63 = omega (arith, fits.sfits) in
    let small : suc n < 2 ^ 64 = omega arith in
    let some : 1 ≤ suc n = omega arith in
    rw (decimal_is_number (suc n) small, digits_value-decimal own (suc n) small, le-leb 1 (suc n) some, le-leb (suc n) (2 ^ 63) few) refl

number_lacks : (c : ℕ) (n : ℤ) → (45 == c) ≡ false → is_ascii_digit c ≡ false → FitsSigned w64 n → Lacks c (compact_text (integer n))
number_lacks c (pos n) other fails fits =
    let few : n < 2 ^ 63 = omega (arith, fits.sfits) in
    lacks_digits c (decimal n) fails (digits_decimal own n (omega arith))
number_lacks c (negsuc n) other fails fits =
    let few : suc n ≤ 2 ^ 63 = omega (arith, fits.sfits) in
    lacks_first c 45 (decimal (suc n)) other (lacks_digits c (decimal (suc n)) fails (digits_decimal own (suc n) (omega arith)))

limit_words : (setting : Setting) (number : List ℕ) → Lacks space number → spaced_words (limit_word setting ++ (codes " " ++ number)) ≡ limit_word setting ∷ number ∷ []
limit_words MaxOpen number none = ap (λ words. codes "maxopen" ∷ words) (alone number none)
limit_words MaxIdle number none = ap (λ words. codes "maxidle" ∷ words) (alone number none)
limit_words MaxLife number none = ap (λ words. codes "maxlife" ∷ words) (alone number none)
limit_words MaxIdleTime number none = ap (λ words. codes "maxidletime" ∷ words) (alone number none)

limit_lacks : (setting : Setting) (number : List ℕ) → Lacks bracket number → Lacks bracket (limit_word setting ++ (codes " " ++ number))
limit_lacks MaxOpen number none = none
limit_lacks _ number none = none

not_skipped : (setting : Setting) (number : List ℕ) → is_skipped (limit_word setting ++ (codes " " ++ number)) ≡ false
not_skipped MaxOpen number = is_told 109 (codes "axopen " ++ number) refl
not_skipped MaxIdle number = is_told 109 (codes "axidle " ++ number) refl
not_skipped MaxLife number = is_told 109 (codes "axlife " ++ number) refl
not_skipped MaxIdleTime number = is_told 109 (codes "axidletime " ++ number) refl

limit_is_read : (head : Head) (setting : Setting) (n : ℤ) → FitsSigned w64 n → form_of head (limit_word setting ∷ compact_text (integer n) ∷ []) None ≡ Ok (script.Control (Set setting n))
limit_is_read head MaxOpen n fits = rw (number_is_read n fits) refl
limit_is_read head _ n fits = rw (number_is_read n fits) refl

pub limit_is_read_back : (head : Head) (setting : Setting) (n : ℤ) → FitsSigned w64 n → text_of head (limit_text setting n) ≡ Ok (script.Control (Set setting n))
limit_is_read_back head setting n fits =
    let number = compact_text (integer n) in
    let words = limit_words setting number (number_lacks space n refl refl fits) in
    without_array head (limit_text setting n) (not_skipped setting number) (limit_lacks setting number (number_lacks bracket n refl refl fits))
    ∙ ap (λ ws. form_of head ws None) words ∙ limit_is_read head setting n fits
