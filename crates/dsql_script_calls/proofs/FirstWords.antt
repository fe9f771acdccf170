-- Borrowed words of a call, as the program holds them, split into the first words and the others as the specs
-- split them.
use Rattle.std.proofs.Common.{◌≡◌, ℕ, ◌≤◌, ◌-◌, List, [], ◌∷◌, length, get_or, take, drop, refl, arith, Bor}
use Rattle.std.proofs.lemmas.List.{take_all}
use Rattle.dsql_script_calls.proofs.LineWords.{texts}

pub first_word : (words : List (Bor (List ℕ))) (d : Bor (List ℕ)) → 1 ≤ length words → texts words ≡ (get_or words 0 d).now ∷ texts (take (length words - 1) (drop 1 words))
first_word [] d some = absurd (omega arith)
first_word (first ∷ words) d some =
    let all : take (length (first ∷ words) - 1) words ≡ words = take_all _ words (omega arith) in
    rw all refl

pub first_two_words : (words : List (Bor (List ℕ))) (d : Bor (List ℕ)) → 2 ≤ length words → texts words ≡ (get_or words 0 d).now ∷ (get_or words 1 d).now ∷ texts (take (length words - 2) (drop 2 words))
first_two_words [] d some = absurd (omega arith)
first_two_words (first ∷ []) d some = absurd (omega arith)
first_two_words (first ∷ second ∷ words) d some =
    let all : take (length (first ∷ second ∷ words) - 2) words ≡ words = take_all _ words (omega arith) in
    rw all refl
