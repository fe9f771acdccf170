-- Tests of lists.
use Rattle.std.proofs.Common.{◌≡◌, ℕ, Bool, true, false, cond, not, ◌&&◌, ◌||◌, ◌==◌, List, [], ◌∷◌, map, refl, ap}
use Rattle.std.specs.List.{filter, list_any, list_all}
use native.Mathlib.Omega.{arith}
use Rattle.std.proofs.lemmas.Bool.Decides.{nat_tests}
use Rattle.dsql_tenure_journal.specs.Readers.{is_empty, has}

pub is_empty-filter : {X : Type 0} (p : X → Bool) (xs : List X) → is_empty (filter p xs) ≡ not (list_any p xs)
is_empty-filter p [] = refl
is_empty-filter p (x ∷ xs) = go (p x) (is_empty-filter p xs)
  where
    go : (b : Bool) → is_empty (filter p xs) ≡ not (list_any p xs) → is_empty (cond b (x ∷ filter p xs) (filter p xs)) ≡ not (b || list_any p xs)
    go true h = refl
    go false h = h

pub list_all-filter : {X : Type 0} (f p : X → Bool) (xs : List X) → list_all f (filter p xs) ≡ list_all (λ x. not (p x) || f x) xs
list_all-filter f p [] = refl
list_all-filter f p (x ∷ xs) = go (p x) (list_all-filter f p xs)
  where
    go : (b : Bool) → list_all f (filter p xs) ≡ list_all (λ y. not (p y) || f y) xs → list_all f (cond b (x ∷ filter p xs) (filter p xs)) ≡ ((not b || f x) && list_all (λ y. not (p y) || f y) xs)
    go true h = ap (λ b. f x && b) h
    go false h = h

pub filter-map : {X Y : Type 0} (p : Y → Bool) (h : X → Y) (xs : List X) → filter p (map h xs) ≡ map h (filter (λ x. p (h x)) xs)
filter-map p h [] = refl
filter-map p h (x ∷ xs) = go (p (h x)) (filter-map p h xs)
  where
    go : (b : Bool) → filter p (map h xs) ≡ map h (filter (λ y. p (h y)) xs) → cond b (h x ∷ filter p (map h xs)) (filter p (map h xs)) ≡ map h (cond b (x ∷ filter (λ y. p (h y)) xs) (filter (λ y. p (h y)) xs))
    go true k = ap (λ ys. h x ∷ ys) k
    go false k = k

pub list_any-map : {X Y : Type 0} (p : Y → Bool) (h : X → Y) (xs : List X) → list_any p (map h xs) ≡ list_any (λ x. p (h x)) xs
list_any-map p h [] = refl
list_any-map p h (x ∷ xs) = ap (λ b. p (h x) || b) (list_any-map p h xs)

pub list_all-map : {X Y : Type 0} (p : Y → Bool) (h : X → Y) (xs : List X) → list_all p (map h xs) ≡ list_all (λ x. p (h x)) xs
list_all-map p h [] = refl
list_all-map p h (x ∷ xs) = ap (λ b. p (h x) && b) (list_all-map p h xs)

-- All elements of a list fail a test exactly if none passes it.
pub list_all-none : {X : Type 0} (p : X → Bool) (xs : List X) → list_all (λ x. not (p x)) xs ≡ not (list_any p xs)
list_all-none p [] = refl
list_all-none p (x ∷ xs) = go (p x) (list_all-none p xs)
  where
    go : (b : Bool) → list_all (λ y. not (p y)) xs ≡ not (list_any p xs) → (not b && list_all (λ y. not (p y)) xs) ≡ not (b || list_any p xs)
    go true h = refl
    go false h = h

-- What holds of all elements, and implies a second test, makes the second hold of all.
pub list_all-so : {X : Type 0} (p q : X → Bool) → ((x : X) → p x ≡ true → q x ≡ true) → (xs : List X) → list_all p xs ≡ true → list_all q xs ≡ true
list_all-so p q so [] h = refl
list_all-so p q so (x ∷ xs) h = go (p x) refl h (list_all-so p q so xs)
  where
    both : (a b : Bool) → a ≡ true → b ≡ true → (a && b) ≡ true
    both true b h k = k
    both false b h k = h

    go : (b : Bool) → p x ≡ b → (b && list_all p xs) ≡ true → (list_all p xs ≡ true → list_all q xs ≡ true) → (q x && list_all q xs) ≡ true
    go true is h more = both (q x) (list_all q xs) (so x is) (more h)
    go false is h more = grind (arith, h)

-- Two tests that agree on each element agree on the list.
pub list_all-same : {X : Type 0} (p q : X → Bool) → ((x : X) → p x ≡ q x) → (xs : List X) → list_all p xs ≡ list_all q xs
list_all-same p q same [] = refl
list_all-same p q same (x ∷ xs) = grind (arith, same x, list_all-same p q same xs)

-- All elements pass two tests at once exactly if all pass each.
pub list_all-and : {X : Type 0} (p q : X → Bool) (xs : List X) → list_all (λ x. p x && q x) xs ≡ (list_all p xs && list_all q xs)
list_all-and p q [] = refl
list_all-and p q (x ∷ xs) = go (p x) (q x) (list_all p xs) (list_all q xs) (list_all-and p q xs)
  where
    go : (a b c d : Bool) → list_all (λ y. p y && q y) xs ≡ (c && d) → ((a && b) && list_all (λ y. p y && q y) xs) ≡ ((a && c) && (b && d))
    go true true c d h = h
    go true false true d h = refl
    go true false false d h = refl
    go false b c d h = refl

-- If some element passes one test and all pass another, some element passes both.
pub list_any-both : {X : Type 0} (p q : X → Bool) (xs : List X) → list_any p xs ≡ true → list_all q xs ≡ true → list_any (λ x. p x && q x) xs ≡ true
list_any-both p q [] h k = grind (arith, h)
list_any-both p q (x ∷ xs) h k = go (p x) (q x) h k (list_any-both p q xs)
  where
    go : (a b : Bool) → (a || list_any p xs) ≡ true → (b && list_all q xs) ≡ true
        → (list_any p xs ≡ true → list_all q xs ≡ true → list_any (λ y. p y && q y) xs ≡ true) → ((a && b) || list_any (λ y. p y && q y) xs) ≡ true
    go true true h k more = refl
    go true false h k more = grind (arith, k)
    go false true h k more = more h k
    go false false h k more = grind (arith, k)

-- If some element passes a test that implies another, some element passes the other.
pub list_any-so : {X : Type 0} (p q : X → Bool) → ((x : X) → p x ≡ true → q x ≡ true) → (xs : List X) → list_any p xs ≡ true → list_any q xs ≡ true
list_any-so p q so [] h = grind (arith, h)
list_any-so p q so (x ∷ xs) h = go (p x) refl h (list_any-so p q so xs)
  where
    either : (a b : Bool) → b ≡ true → (a || b) ≡ true
    either true b h = refl
    either false b h = h

    first : (a b : Bool) → a ≡ true → (a || b) ≡ true
    first true b h = refl
    first false b h = grind (arith, h)

    go : (b : Bool) → p x ≡ b → (b || list_any p xs) ≡ true → (list_any p xs ≡ true → list_any q xs ≡ true) → (q x || list_any q xs) ≡ true
    go true is h more = first (q x) (list_any q xs) (so x is)
    go false is h more = either (q x) (list_any q xs) (more h)

pub has-filter : (n m : ℕ) (ns : List ℕ) → has n (filter (λ k. not (k == m)) ns) ≡ (not (n == m) && has n ns)
has-filter n m [] = go (n == m)
  where
    go : (b : Bool) → false ≡ (not b && false)
    go true = refl
    go false = refl
has-filter n m (k ∷ ns) = go (k == m) (n == m) (k == n) refl refl refl (has-filter n m ns)
  where
    go : (a b c : Bool) → (k == m) ≡ a → (n == m) ≡ b → (k == n) ≡ c → has n (filter (λ x. not (x == m)) ns) ≡ (not b && has n ns)
        → has n (cond (not a) (k ∷ filter (λ x. not (x == m)) ns) (filter (λ x. not (x == m)) ns)) ≡ (not b && (c || has n ns))
    go true true c ka nm kn h = h
    go true false true ka nm kn h = grind (arith, nat_tests, ka, nm, kn)
    go true false false ka nm kn h = h
    go false true true ka nm kn h = grind (arith, nat_tests, ka, nm, kn)
    go false true false ka nm kn h = rw kn h
    go false false true ka nm kn h = rw kn refl
    go false false false ka nm kn h = rw kn h
