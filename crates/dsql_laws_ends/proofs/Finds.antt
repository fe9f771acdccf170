-- Proves what a test finds in a list of numbers, and what it still finds after a change.
use Rattle.std.proofs.Common.{◌≡◌, ◌≢◌, ℕ, ◌==◌, Bool, true, false, not, ◌||◌, cond, List, [], ◌∷◌, Some, None, refl, ap, ◌∙◌}
use Rattle.std.specs.Prelude.{find, Option}
use Rattle.std.specs.List.{list_any}
use Rattle.dsql_laws_calls.specs.journal.Readers.{has}
use Rattle.dsql_laws_calls.specs.pool.Pooled.{without}
use Rattle.dsql_laws_calls.specs.history.Readers.Pool.{or_none}
use Rattle.dsql_laws_calls.proofs.laws.Truths.{or_first, or_second}
use Rattle.dsql_laws_calls.proofs.laws.Tests.{same_itself, same_number}

-- If a number passes the test, the first that does is in the list and passes. If none does, none is found.

pub found_in : (q : ℕ → Bool) (xs : List ℕ) → list_any q xs ≡ true → has (or_none (find q xs)) xs ≡ true
found_in q [] h = absurd cc
found_in q (x ∷ xs) h = by (found_in q xs) (q x) h
  where
    by : (list_any q xs ≡ true → has (or_none (find q xs)) xs ≡ true) → (b : Bool) → (b || list_any q xs) ≡ true → has (or_none (cond b (Some x) (find q xs))) (x ∷ xs) ≡ true
    by rest true k = ap (λ b. b || has x xs) (same_itself x)
    by rest false k = or_second (x == or_none (find q xs)) (has (or_none (find q xs)) xs) (rest k)

pub found_passes : (q : ℕ → Bool) (xs : List ℕ) → list_any q xs ≡ true → q (or_none (find q xs)) ≡ true
found_passes q [] h = absurd cc
found_passes q (x ∷ xs) h = by (found_passes q xs) (q x) refl h
  where
    by : (list_any q xs ≡ true → q (or_none (find q xs)) ≡ true) → (b : Bool) → q x ≡ b → (b || list_any q xs) ≡ true → q (or_none (cond b (Some x) (find q xs))) ≡ true
    by rest true is k = is
    by rest false is k = rest k

pub found_none : (q : ℕ → Bool) (xs : List ℕ) → list_any q xs ≡ false → find q xs ≡ None
found_none q [] h = refl
found_none q (x ∷ xs) h = by (found_none q xs) (q x) h
  where
    by : (list_any q xs ≡ false → find q xs ≡ None) → (b : Bool) → (b || list_any q xs) ≡ false → cond b (Some x) (find q xs) ≡ None
    by rest true k = absurd cc
    by rest false k = rest k

pub any_of : (q : ℕ → Bool) (xs : List ℕ) (y : ℕ) → has y xs ≡ true → q y ≡ true → list_any q xs ≡ true
any_of q [] y h passes = absurd cc
any_of q (x ∷ xs) y h passes = by (any_of q xs y) (x == y) refl h
  where
    by : (has y xs ≡ true → q y ≡ true → list_any q xs ≡ true) → (b : Bool) → (x == y) ≡ b → (b || has y xs) ≡ true → (q x || list_any q xs) ≡ true
    by rest true is k = or_first (q x) (list_any q xs) (ap q (same_number x y is) ∙ passes)
    by rest false is k = or_second (q x) (list_any q xs) (rest k passes)

-- Tests that agree on a list find the same number in it.
pub found_same : (q r : ℕ → Bool) (xs : List ℕ) → ((x : ℕ) → has x xs ≡ true → r x ≡ q x) → find r xs ≡ find q xs
found_same q r [] same = refl
found_same q r (x ∷ xs) same =
    let here : r x ≡ q x = same x (ap (λ b. b || has x xs) (same_itself x)) in
    ap (λ (b : Bool). cond b (Some x) (find r xs)) here
    ∙ ap (λ (o : Option ℕ). cond (q x) (Some x) o) (found_same q r xs (λ y h. same y (or_second (x == y) (has y xs) h)))

-- If a number other than the found one is removed, the test finds the same number.
pub found_without : (q : ℕ → Bool) (n : ℕ) (xs : List ℕ) → or_none (find q xs) ≢ n → or_none (find q (without n xs)) ≡ or_none (find q xs)
found_without q n [] h = refl
found_without q n (x ∷ xs) h = by (found_without q n xs) (q x) (x == n) refl refl h
  where
    by : (or_none (find q xs) ≢ n → or_none (find q (without n xs)) ≡ or_none (find q xs)) → (b c : Bool) → q x ≡ b → (x == n) ≡ c → or_none (cond b (Some x) (find q xs)) ≢ n
        → or_none (find q (cond (not c) (x ∷ without n xs) (without n xs))) ≡ or_none (cond b (Some x) (find q xs))
    by rest true true passes same apart = absurd (apart (same_number x n same))
    by rest true false passes same apart = ap (λ (b : Bool). or_none (cond b (Some x) (find q (without n xs)))) passes
    by rest false true passes same apart = rest apart
    by rest false false passes same apart = ap (λ (b : Bool). or_none (cond b (Some x) (find q (without n xs)))) passes ∙ rest apart
