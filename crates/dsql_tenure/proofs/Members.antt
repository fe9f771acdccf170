-- What some or all of a list pass.
use Rattle.std.proofs.Common.{◌≡◌, ◌≤◌, Bool, true, false, cond, not, ◌&&◌, ◌||◌, List, [], ◌∷◌, length, refl, sym, ◌∙◌}
use Rattle.std.specs.List.{filter, list_all, list_any}
use native.Mathlib.Omega.{arith}
use Rattle.dsql_tenure_journal.specs.Readers.{is_empty}
use Rattle.dsql_tenure_journal.proofs.Conjunctions.{parts2}
use Rattle.dsql_tenure.proofs.Lists.{list_any-both}
use Rattle.dsql_tenure.proofs.Given.{list_any-filter}

-- What follows from an element that passes, and from its standing in the list, holds if some element passes.
pub pick_in : {X : Type 0} (C : Type 0) (p : X → Bool) (xs : List X) → list_any p xs ≡ true → ((x : X) → p x ≡ true → ((q : X → Bool) → q x ≡ true → list_any q xs ≡ true) → C) → C
pick_in C p [] h so = grind (arith, h)
pick_in C p (x ∷ xs) h so = go (p x) refl h (λ some. pick_in C p xs some (λ y is here. so y is (λ q k. later (q x) (here q k))))
  where
    first : (a b : Bool) → a ≡ true → (a || b) ≡ true
    first true b k = refl
    first false b k = grind (arith, k)

    later : (a : Bool) {b : Bool} → b ≡ true → (a || b) ≡ true
    later true k = refl
    later false k = k

    go : (b : Bool) → p x ≡ b → (b || list_any p xs) ≡ true → (list_any p xs ≡ true → C) → C
    go true is k more = so x is (λ q z. first (q x) (list_any q xs) z)
    go false is k more = more k

-- What follows from each element that passes holds if some element passes.
pub pick : {X : Type 0} (C : Type 0) (p : X → Bool) (xs : List X) → list_any p xs ≡ true → ((x : X) → p x ≡ true → C) → C
pick C p xs h so = pick_in C p xs h (λ x is here. so x is)

-- If no element passes both of two tests, some passing one and all passing the other is absurd.
pub clash : {X : Type 0} (p q : X → Bool) (xs : List X) → ((x : X) → p x ≡ true → q x ≡ true → ⊥) → list_any p xs ≡ true → list_all q xs ≡ true → ⊥
clash p q xs never some all = pick ⊥ (λ x. p x && q x) xs (list_any-both p q xs some all) (λ x k. let r = parts2 (p x) (q x) k in never x r.0 r.1)

-- A test that no element passes isn't passed in a part of the list.
pub none-kept : {X : Type 0} (p keep : X → Bool) (xs : List X) → list_any p xs ≡ false → list_any p (filter keep xs) ≡ false
none-kept p keep [] h = h
none-kept p keep (x ∷ xs) h = go (p x) (keep x) refl h (none-kept p keep xs)
  where
    go : (a b : Bool) → p x ≡ a → (a || list_any p xs) ≡ false → (list_any p xs ≡ false → list_any p (filter keep xs) ≡ false) → list_any p (cond b (x ∷ filter keep xs) (filter keep xs)) ≡ false
    go true b is h more = grind (arith, h)
    go false true is h more = rw is (more h)
    go false false is h more = more h

-- If the list isn't empty and all its elements pass a test, some element passes it.
pub all-any : {X : Type 0} (f : X → Bool) (xs : List X) → not (is_empty xs) ≡ true → list_all f xs ≡ true → list_any f xs ≡ true
all-any f [] some all = grind (arith, some)
all-any f (x ∷ xs) some all = rw (parts2 (f x) (list_all f xs) all).0 refl

-- If not all elements pass a test, some element fails it.
pub not_all : {X : Type 0} (f : X → Bool) (xs : List X) → list_all f xs ≡ false → list_any (λ x. not (f x)) xs ≡ true
not_all f [] h = sym h
not_all f (x ∷ xs) h = go (f x) h (not_all f xs)
  where
    go : (b : Bool) → (b && list_all f xs) ≡ false → (list_all f xs ≡ false → list_any (λ y. not (f y)) xs ≡ true) → (not b || list_any (λ y. not (f y)) xs) ≡ true
    go true h more = more h
    go false h more = refl

-- If at most one element has a number and some element with the number passes a test, all that have it pass.
pub only-one : {X : Type 0} (named f : X → Bool) (xs : List X) → length (filter named xs) ≤ 1 → list_any (λ x. named x && f x) xs ≡ true → list_all f (filter named xs) ≡ true
only-one named f xs few some =
    go (filter named xs) few (list_any-filter f named xs ∙ some)
  where
    go : (ys : List _) → length ys ≤ 1 → list_any f ys ≡ true → list_all f ys ≡ true
    go [] few some = refl
    go (y ∷ []) few some = first (f y) some
      where
        first : (b : Bool) → (b || false) ≡ true → (b && true) ≡ true
        first true k = refl
        first false k = k
    go (y ∷ z ∷ ys) few some = absurd (omega (arith, few))
