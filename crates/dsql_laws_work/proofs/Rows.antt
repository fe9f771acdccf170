-- Proves facts of lists: what stands at a place after a write, and what a list has after an edit.
use Rattle.std.proofs.Common.{◌≡◌, ◌≢◌, ℕ, zero, suc, ◌<◌, ◌≤◌, Bool, true, false, not, ◌||◌, ◌==◌, List, [], ◌∷◌, ◌++◌, length, get_or, set, refl, arith, ◌⊎◌, inl, inr, subst, sym}
use Rattle.std.proofs.lemmas.Bool.Decides.{nat_tests}
use Rattle.dsql_history_work.specs.journal.Readers.{has}

pub not_true : (b : Bool) → not b ≡ true → b ≡ false
not_true true h = absurd cc
not_true false h = refl

pub same_number : (n m : ℕ) → (n == m) ≡ true → n ≡ m
same_number n m h = grind (arith, nat_tests)

pub is_itself : (n : ℕ) → (n == n) ≡ true
is_itself n = grind (arith, nat_tests)

pub same_or_not : (n m : ℕ) → (n ≡ m) ⊎ (n ≢ m)
same_or_not n m = grind (arith, nat_tests)

pub has_push : (x y : ℕ) (xs : List ℕ) → has x (xs ++ y ∷ []) ≡ (has x xs || (y == x))
has_push x y [] = grind (arith, nat_tests)
has_push x y (z ∷ xs) = grind (arith, nat_tests, has_push x y xs)

-- After a write at i, the element at j is the written one if j is i and within the list. Otherwise it is as before.
pub read_set : {A : Type 0} (xs : List A) (i : ℕ) (a : A) (j : ℕ) (d : A) → ((j ≡ i) × (i < length xs) × (get_or (set xs i a) j d ≡ a)) ⊎ ((j ≡ i → length xs ≤ i) × (get_or (set xs i a) j d ≡ get_or xs j d))
read_set [] i a j d = inr (λ e. omega arith, refl)
read_set (x ∷ xs) zero a zero d = inl (refl, omega arith, refl)
read_set (x ∷ xs) zero a (suc j) d = inr (λ e. absurd (omega arith), refl)
read_set (x ∷ xs) (suc i) a zero d = inr (λ e. absurd (omega arith), refl)
read_set (x ∷ xs) (suc i) a (suc j) d = grind (arith, read_set xs i a j d)

pub read_push : {A : Type 0} (xs : List A) (a : A) (j : ℕ) (d : A) → ((j ≡ length xs) × (get_or (xs ++ a ∷ []) j d ≡ a)) ⊎ ((j ≢ length xs) × (get_or (xs ++ a ∷ []) j d ≡ get_or xs j d))
read_push [] a zero d = inl (refl, refl)
read_push [] a (suc j) d = inr (λ e. absurd (omega arith), refl)
read_push (x ∷ xs) a zero d = inr (λ e. absurd (omega arith), refl)
read_push (x ∷ xs) a (suc j) d = grind (arith, read_push xs a j d)

-- The element beyond the end of a list is the one that stands for none.
pub within_rows : {A : Type 0} (xs : List A) (i : ℕ) (d : A) → (i < length xs) ⊎ ((length xs ≤ i) × (get_or xs i d ≡ d))
within_rows [] i d = inr (omega arith, refl)
within_rows (x ∷ xs) zero d = inl (omega arith)
within_rows (x ∷ xs) (suc i) d = grind (arith, within_rows xs i d)

-- The element at a place after a write at that place is the written one.
pub row_at : {A : Type 0} (xs : List A) (i : ℕ) (a d : A) → i < length xs → get_or (set xs i a) i d ≡ a
row_at xs i a d h = grind (arith, read_set xs i a i d)

pub row_off : {A : Type 0} (xs : List A) (i : ℕ) (a : A) (j : ℕ) (d : A) → j ≢ i → get_or (set xs i a) j d ≡ get_or xs j d
row_off xs i a j d h = grind (arith, read_set xs i a j d)

pub row_new : {A : Type 0} (xs : List A) (a : A) (i : ℕ) (d : A) → i ≡ length xs → get_or (xs ++ a ∷ []) i d ≡ a
row_new xs a i d h = grind (arith, read_push xs a i d)

pub row_old : {A : Type 0} (xs : List A) (a : A) (i : ℕ) (d : A) → i ≢ length xs → get_or (xs ++ a ∷ []) i d ≡ get_or xs i d
row_old xs a i d h = grind (arith, read_push xs a i d)

-- What holds of one number and of every other number holds of each.
pub by_number : (c d : ℕ) (P : ℕ → Type 0) → P c → (d ≢ c → P d) → P d
by_number c d P here there = elim (same_or_not d c) [ inl e ↦ subst P (sym e) here | inr n ↦ there n ]
