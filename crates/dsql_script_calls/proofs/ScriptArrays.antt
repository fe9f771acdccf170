-- Proves where the array of a line begins. The argument goes by the first place at which ` [` stands in the
-- line.
use Rattle.std.proofs.Common.{◌≡◌, ℕ, zero, suc, ◌<◌, ◌≤◌, List, [], ◌∷◌, ◌++◌, true, false, length, take, drop, codes, Some, None, refl, ap, inl, inr, arith}
use Rattle.std.specs.Str.Pattern.{LacksTextAt}
use Rattle.std.proofs.lemmas.Bool.{cases_Bool}
use Rattle.std.proofs.lemmas.Bool.Decides.{Decides-eqb}
use Rattle.std.proofs.lemmas.Slice.Eq.{starts_is}
use Rattle.dsql_script_calls.specs.ScriptWords.{begins_with, before_array, array_of}

abbrev pub opening : List ℕ
opening = codes " ["

begins : (text rest : List ℕ) → text ≡ opening ++ rest → begins_with text opening ≡ true
begins text rest e = (starts_is Decides-eqb text opening (begins_with text opening) refl).1 rest e

lacks : (text : List ℕ) → LacksTextAt opening text 0 → begins_with text opening ≡ false
lacks text h = elim (cases_Bool (begins_with text opening)) [ inl e ↦ absurd (h (drop 2 text) ((starts_is Decides-eqb text opening (begins_with text opening) refl).0 e)) | inr e ↦ e ]

pub before_array-at : (text : List ℕ) (i : ℕ) (rest : List ℕ) → ((k : ℕ) → k < i → LacksTextAt opening text k) → drop i text ≡ opening ++ rest → before_array text ≡ take i text
before_array-at [] zero rest free e = refl
before_array-at [] (suc i) rest free e = refl
before_array-at (b ∷ text) zero rest free e = rw (begins (b ∷ text) rest e) refl
before_array-at (b ∷ text) (suc i) rest free e =
    rw (lacks (b ∷ text) (free 0 (omega arith))) (ap (λ xs. b ∷ xs) (before_array-at text i rest (λ k h. free (suc k) (omega arith)) e))

pub array_of-at : (text : List ℕ) (i : ℕ) (rest : List ℕ) → ((k : ℕ) → k < i → LacksTextAt opening text k) → drop i text ≡ opening ++ rest → array_of text ≡ Some (drop (suc i) text)
array_of-at [] zero rest free e = cc
array_of-at [] (suc i) rest free e = cc
array_of-at (b ∷ text) zero rest free e = rw (begins (b ∷ text) rest e) refl
array_of-at (b ∷ text) (suc i) rest free e =
    rw (lacks (b ∷ text) (free 0 (omega arith))) (array_of-at text i rest (λ k h. free (suc k) (omega arith)) e)

pub before_array_none : (text : List ℕ) → ((k : ℕ) → k ≤ length text → LacksTextAt opening text k) → before_array text ≡ text
before_array_none [] free = refl
before_array_none (b ∷ text) free =
    rw (lacks (b ∷ text) (free 0 (omega arith))) (ap (λ xs. b ∷ xs) (before_array_none text (λ k h. free (suc k) (omega arith))))

pub array_of_none : (text : List ℕ) → ((k : ℕ) → k ≤ length text → LacksTextAt opening text k) → array_of text ≡ None
array_of_none [] free = refl
array_of_none (b ∷ text) free =
    rw (lacks (b ∷ text) (free 0 (omega arith))) (array_of_none text (λ k h. free (suc k) (omega arith)))
