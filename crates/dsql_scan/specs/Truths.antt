-- The spellings of true and false.
use Rattle.std.specs.Prelude.{ℕ, ◌==◌, ℤ, pos, negsuc, Bool, true, false, List, [], ◌∷◌, codes, Option, Some, None, if◌then◌else◌}
use Rattle.std.specs.List.{list_any}
use Rattle.std.specs.Str.{bytes_eq}

abbrev pub true_spellings : List (List ℕ)
true_spellings = codes "1" ∷ codes "t" ∷ codes "T" ∷ codes "TRUE" ∷ codes "true" ∷ codes "True" ∷ []

abbrev pub false_spellings : List (List ℕ)
false_spellings = codes "0" ∷ codes "f" ∷ codes "F" ∷ codes "FALSE" ∷ codes "false" ∷ codes "False" ∷ []

abbrev pub is_among : List (List ℕ) → List ℕ → Bool
is_among spellings text = list_any (bytes_eq text) spellings

-- Returns the truth that a text spells.
abbrev pub spelled_truth : List ℕ → Option Bool
spelled_truth text =
    if is_among true_spellings text then Some true else (if is_among false_spellings text then Some false else None)

-- Returns the truth that a number stands for.
abbrev pub number_truth : ℤ → Option Bool
number_truth (pos n) = if n == 0 then Some false else (if n == 1 then Some true else None)
number_truth (negsuc n) = None

-- Returns the spelling of a truth as a text.
abbrev pub truth_word : Bool → List ℕ
truth_word true = codes "true"
truth_word false = codes "false"
