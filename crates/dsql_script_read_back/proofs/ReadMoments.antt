-- The number of a moment, after `tick`, is read as this moment.
use Rattle.std.proofs.Common.{◌≡◌, ℕ, ◌<◌, ◌^◌, decimal, Some, refl, [], ◌∷◌, ◌++◌, false, codes, None, Ok, ap, ◌∙◌}
use Rattle.std.proofs.lemmas.Bool.{lt-ltb}
use Rattle.std.proofs.lemmas.Fmt.{digits_value-decimal, digits_decimal}
use Rattle.serde_json.specs.Written.{compact_text}
use Rattle.dsql_script_spelling.specs.LineValues.{natural}
use Rattle.dsql_script_calls.specs.ScriptWords.{moment_of, space, spaced_words}
use Rattle.dsql_script_calls.proofs.ScriptClients.{own}
use Rattle.dsql_script_read_back.proofs.ReadClients.{decimal_is_number}
use Rattle.std.specs.Char.{is_ascii_digit}
use Rattle.dsql_history.specs.declared.event.Control.TheVariants.{Tick}
use Rattle.dsql_script_read_back.specs.ReadBack.{moment_text}
use Rattle.dsql_script_read_back.proofs.LineParts.{is_told, alone, without_array}
use Rattle.dsql_script_read_back.proofs.WordBytes.{Lacks, bracket, lacks_digits}
use Rattle.dsql_script_reader.specs.declared.script.Head.{Head}
use Rattle.dsql_script_reader.specs.declared.script.ScriptLine.TheVariants as script
use Rattle.dsql_script_reader.specs.ScriptLines.{form_of, text_of}

pub number_is_read : (now : ℕ) → now < 2 ^ 64 → moment_of (compact_text (natural now)) ≡ Some now
number_is_read now small = rw (decimal_is_number now small, digits_value-decimal own now small, lt-ltb now (2 ^ 64) small) refl

number_lacks : (c now : ℕ) → is_ascii_digit c ≡ false → now < 2 ^ 64 → Lacks c (compact_text (natural now))
number_lacks c now fails small = lacks_digits c (decimal now) fails (digits_decimal own now small)

moment_words : (now : ℕ) → now < 2 ^ 64 → spaced_words (moment_text now) ≡ codes "tick" ∷ compact_text (natural now) ∷ []
moment_words now small = ap (λ words. codes "tick" ∷ words) (alone (compact_text (natural now)) (number_lacks space now refl small))

moment_is_read : (head : Head) (now : ℕ) → now < 2 ^ 64 → form_of head (codes "tick" ∷ compact_text (natural now) ∷ []) None ≡ Ok (script.Control (Tick now))
moment_is_read head now small = rw (number_is_read now small) refl

pub moment_is_read_back : (head : Head) (now : ℕ) → now < 2 ^ 64 → text_of head (moment_text now) ≡ Ok (script.Control (Tick now))
moment_is_read_back head now small =
    let lacks : Lacks bracket (moment_text now) = number_lacks bracket now refl small in
    without_array head (moment_text now) (is_told 116 (codes "ick " ++ compact_text (natural now)) refl) lacks
    ∙ ap (λ ws. form_of head ws None) (moment_words now small) ∙ moment_is_read head now small
