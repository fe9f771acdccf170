-- Proves that what a line says depends on whether its bytes are UTF-8. The argument has a case for each.
use Rattle.std.proofs.Common.{◌≡◌, ◌≢◌, ℕ, Bool, suc, ◌-◌, List, [], ◌∷◌, ◌++◌, eqb, length, length-append, take, get_or, Option, Some, None, unwrap_or, refl, sym, ap, ◌∙◌, inl, inr, arith, Bor, ◌≤◌, false, Err}
use Rattle.std.specs.Option.{MatchOption}
use Rattle.std.specs.Str.Lines.{strip_carriage_return}
use Rattle.std.proofs.Math.Seq.{split_at, take-append_seam}
use Rattle.std.proofs.lemmas.List.{drop_all, get_or_push}
use Rattle.std.proofs.lemmas.Bool.{cases_Bool, eqb-true, le-ltb}
use Rattle.std.specs.Str.{IsUtf8, is_utf8}
use Rattle.std.proofs.lemmas.Str.{IsUtf8-from_is_utf8, is_utf8-from_IsUtf8}
use Rattle.dsql_script_forms.specs.declared.fault.LineFault.TheVariants.{NotUtf8}
use Rattle.dsql_script_reader.specs.ScriptLines.{most_bytes, line_of, text_by}
use Rattle.dsql_script_reader.specs.declared.script.Head.{Head}

strip-return : (front : List ℕ) → strip_carriage_return (front ++ 13 ∷ []) ≡ front
strip-return front =
    let len : length (front ++ 13 ∷ []) - 1 ≡ length front = omega (arith, length-append front (13 ∷ [])) in
    rw (len, get_or_push front 13 0 (length front) refl, take-append_seam front (13 ∷ [])) refl

-- A text whose last byte is a carriage return is the bytes before it, followed by the return.
ends_in_return : (b : ℕ) (rest : List ℕ) → get_or (b ∷ rest) (length rest) 0 ≡ 13 → b ∷ rest ≡ take (length rest) (b ∷ rest) ++ 13 ∷ []
ends_in_return b rest e =
    let cut = split_at (b ∷ rest) (length rest) 0 (omega arith) in
    cut ∙ rw (e, drop_all (suc (length rest)) (b ∷ rest) (omega arith)) refl

strip_no_return : (line : List ℕ) → ((front : List ℕ) → line ≢ front ++ 13 ∷ []) → strip_carriage_return line ≡ line
strip_no_return [] none = refl
strip_no_return (b ∷ rest) none =
    let len : length (b ∷ rest) - 1 ≡ length rest = omega arith in
    rw len (elim (cases_Bool (eqb (get_or (b ∷ rest) (length rest) 0) 13)) [
      | inl is ↦ absurd (none (take (length rest) (b ∷ rest)) (ends_in_return b rest (eqb-true _ 13 is)))
      | inr not ↦ rw not refl
    ])

-- A line without its carriage return is what `strip_suffix` leaves, or the whole line if it leaves nothing.
pub strip_carriage_return-is : (line : Bor (List ℕ)) (stripped : Option (Bor (List ℕ))) → MatchOption stripped ((front : List ℕ) → line.now ≢ front ++ 13 ∷ []) (λ x. line.now ≡ x.now ++ 13 ∷ []) → (unwrap_or stripped line).now ≡ strip_carriage_return line.now
strip_carriage_return-is line None none = sym (strip_no_return line.now none)
strip_carriage_return-is line (Some x) is = sym (ap strip_carriage_return is ∙ strip-return x.now)

pub line_of_text : (race : Bool) (head : Head) (line : List ℕ) → length line ≤ most_bytes → IsUtf8 line → line_of race head line ≡ text_by race head (strip_carriage_return line)
line_of_text race head line few text = rw (le-ltb most_bytes (length line) few, is_utf8-from_IsUtf8 line text) refl

not_text : (line : List ℕ) → ¬ (IsUtf8 line) → is_utf8 line ≡ false
not_text line bytes = elim (cases_Bool (is_utf8 line)) [ inl is ↦ absurd (bytes (IsUtf8-from_is_utf8 line is)) | inr is ↦ is ]

pub line_of_bytes : (race : Bool) (head : Head) (line : List ℕ) → length line ≤ most_bytes → ¬ (IsUtf8 line) → line_of race head line ≡ Err NotUtf8
line_of_bytes race head line few bytes = rw (le-ltb most_bytes (length line) few, not_text line bytes) refl
