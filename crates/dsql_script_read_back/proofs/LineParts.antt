-- Proves that the words of a script line, and its array if it has one, settle what the line says. The argument
-- looks for the place where the array begins.
use Rattle.std.proofs.Common.{◌≡◌, ℕ, List, [], ◌∷◌, ◌++◌, Bool, false, ◌==◌, eqb, length, refl, arith, codes, Some, None, ap, subst}
use Rattle.std.proofs.lemmas.Bool.{ne_eqb, and_right, or_parts}
use Rattle.std.proofs.lemmas.List.Splits.{slice_split_none, slice_split_at}
use Rattle.dsql_script_reader.specs.ScriptLines.{is_skipped, form_of, text_of}
use Rattle.dsql_script_calls.specs.ScriptWords.{space, spaced_words, begins_with, before_array, array_of}
use Rattle.dsql_script_read_back.proofs.WordBytes.{Lacks, none_of, bracket}
use Rattle.dsql_script_calls.proofs.ScriptClients.{begins_not}
use Rattle.dsql_script_reader.specs.declared.script.Head.{Head}

abbrev is_space : ℕ → Bool
is_space byte = byte == space

pub alone : (word : List ℕ) → Lacks space word → spaced_words word ≡ word ∷ []
alone word none = slice_split_none is_space word (none_of is_space word none)

pub behind_it : (word rest : List ℕ) → Lacks space word → spaced_words (word ++ space ∷ rest) ≡ word ∷ spaced_words rest
behind_it word rest none = slice_split_at is_space word space rest (none_of is_space word none) refl

-- A line that isn't empty and doesn't begin with `#` isn't skipped.
pub is_told : (byte : ℕ) (rest : List ℕ) → eqb 35 byte ≡ false → is_skipped (byte ∷ rest) ≡ false
is_told byte rest other = rw (ne_eqb (length (byte ∷ rest)) 0 (λ e. absurd (omega arith)), other) refl

not_bracket : (text : List ℕ) → Lacks bracket text → begins_with text (bracket ∷ []) ≡ false
not_bracket text none = begins_not bracket text (λ rest e. let clash : Lacks bracket (bracket ∷ rest) = subst (Lacks bracket) e none in cc)

not_opening : (byte : ℕ) (rest : List ℕ) → begins_with rest (bracket ∷ []) ≡ false → begins_with (byte ∷ rest) (codes " [") ≡ false
not_opening byte rest none = and_right (eqb space byte) (begins_with rest (bracket ∷ [])) none

at_seam : (text rest : List ℕ) → Lacks bracket text → begins_with (text ++ space ∷ rest) (bracket ∷ []) ≡ false
at_seam [] rest none = refl
at_seam (byte ∷ text) rest none = not_bracket (byte ∷ text) none

all_before : (text : List ℕ) → Lacks bracket text → before_array text ≡ text
all_before [] none = refl
all_before (byte ∷ text) none =
    let more = (or_parts (byte == bracket) _ none).1 in
    rw (not_opening byte text (not_bracket text more)) (ap (λ t. byte ∷ t) (all_before text more))

none_behind : (text : List ℕ) → Lacks bracket text → array_of text ≡ None
none_behind [] none = refl
none_behind (byte ∷ text) none =
    let more = (or_parts (byte == bracket) _ none).1 in
    rw (not_opening byte text (not_bracket text more)) (none_behind text more)

words_before : (text rest : List ℕ) → Lacks bracket text → before_array (text ++ space ∷ bracket ∷ rest) ≡ text
words_before [] rest none = refl
words_before (byte ∷ text) rest none =
    let more = (or_parts (byte == bracket) _ none).1 in
    rw (not_opening byte (text ++ space ∷ bracket ∷ rest) (at_seam text (bracket ∷ rest) more)) (ap (λ t. byte ∷ t) (words_before text rest more))

array_behind : (text rest : List ℕ) → Lacks bracket text → array_of (text ++ space ∷ bracket ∷ rest) ≡ Some (bracket ∷ rest)
array_behind [] rest none = refl
array_behind (byte ∷ text) rest none =
    let more = (or_parts (byte == bracket) _ none).1 in
    rw (not_opening byte (text ++ space ∷ bracket ∷ rest) (at_seam text (bracket ∷ rest) more)) (array_behind text rest more)

pub without_array : (head : Head) (text : List ℕ) → is_skipped text ≡ false → Lacks bracket text → text_of head text ≡ form_of head (spaced_words text) None
without_array head text told none = rw (told, all_before text none, none_behind text none) refl

pub with_array : (head : Head) (words rest : List ℕ) → is_skipped (words ++ space ∷ bracket ∷ rest) ≡ false → Lacks bracket words
    → text_of head (words ++ space ∷ bracket ∷ rest) ≡ form_of head (spaced_words words) (Some (bracket ∷ rest))
with_array head words rest told none = rw (told, words_before words rest none, array_behind words rest none) refl
