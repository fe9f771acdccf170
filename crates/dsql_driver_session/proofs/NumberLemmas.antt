-- Lists as a number is given and others are left out. A new number is one above the last, so it differs from all.
use Rattle.std.proofs.Common.{◌≡◌, ℕ, ◌+◌, ◌≤◌, List, [], ◌∷◌, ◌++◌, map, reverse, Bool, true, false, cond, not, ◌&&◌, ◌||◌, eqb, leb, eq-eqb, ap, sym, refl, ◌∙◌, arith}
use Rattle.std.specs.List.{filter, list_any, list_all}
use Rattle.std.proofs.lemmas.Bool.{false≢true, and_parts, and_from, or_parts, or_from, not-true, not_from_false, cond_both, leb-true, le-leb, ne_eqb}
use Rattle.std.proofs.lemmas.List.{map-append, reverse-append, append-nil}
use Rattle.std.proofs.lemmas.List.Elements.{filter-append}
use Rattle.std.proofs.lemmas.List.Folds.{list_any-append, list_all-append}
use Rattle.std.proofs.lemmas.List.Sorted.{IsPermutation-reverse, list_any-IsPermutation}
use Rattle.dsql_driver.specs.Wires.{has_number}
use Rattle.dsql_driver_session.specs.Session.{are_within, are_distinct}

-- The last item of a list is the first of its reverse.
pub reverse-push : {A B : Type 0} (f : A → B) (xs : List A) (x : A) → reverse (map f (xs ++ x ∷ [])) ≡ f x ∷ reverse (map f xs)
reverse-push f xs x = ap reverse (map-append f xs (x ∷ [])) ∙ reverse-append (map f xs) (f x ∷ [])

reverse-cons : {A : Type 0} (x : A) (xs : List A) → reverse (x ∷ xs) ≡ reverse xs ++ x ∷ []
reverse-cons x xs = reverse-append (x ∷ []) xs

reverse-cond : {A : Type 0} (b : Bool) (x : A) (ys : List A) → reverse (cond b (x ∷ ys) ys) ≡ reverse ys ++ cond b (x ∷ []) []
reverse-cond true x ys = reverse-cons x ys
reverse-cond false x ys = sym (append-nil (reverse ys))

reverse-filter : {A : Type 0} (p : A → Bool) (xs : List A) → reverse (filter p xs) ≡ filter p (reverse xs)
reverse-filter p [] = refl
reverse-filter p (x ∷ xs) =
    reverse-cond (p x) x (filter p xs)
    ∙ ap (λ ys. ys ++ cond (p x) (x ∷ []) []) (reverse-filter p xs)
    ∙ sym (filter-append p (reverse xs) (x ∷ []))
    ∙ ap (filter p) (sym (reverse-cons x xs))

map-cond : {A B : Type 0} (f : A → B) (b : Bool) (x : A) (ys : List A) → map f (cond b (x ∷ ys) ys) ≡ cond b (f x ∷ map f ys) (map f ys)
map-cond f true x ys = refl
map-cond f false x ys = refl

pub map-filter : {A B : Type 0} (f : A → B) (p : B → Bool) (xs : List A) → map f (filter (λ (x : A). p (f x)) xs) ≡ filter p (map f xs)
map-filter f p [] = refl
map-filter {A} f p (x ∷ xs) =
    map-cond f (p (f x)) x (filter (λ (y : A). p (f y)) xs)
    ∙ ap (λ ys. cond (p (f x)) (f x ∷ ys) ys) (map-filter f p xs)

-- Leaving items out of a list leaves them out of its reverse.
pub reverse-without : {A B : Type 0} (f : A → B) (p : B → Bool) (xs : List A) → reverse (map f (filter (λ (x : A). p (f x)) xs)) ≡ filter p (reverse (map f xs))
reverse-without f p xs = ap reverse (map-filter f p xs) ∙ reverse-filter p (map f xs)

pub list_any-reverse : {A : Type 0} (p : A → Bool) (xs : List A) → list_any p (reverse xs) ≡ list_any p xs
list_any-reverse p xs = sym (list_any-IsPermutation p xs (reverse xs) (IsPermutation-reverse xs))

-- What holds of all items and of one more holds with that one at the end.
pub all-push : {A : Type 0} (p : A → Bool) (xs : List A) (x : A) → list_all p xs ≡ true → p x ≡ true → list_all p (xs ++ x ∷ []) ≡ true
all-push p xs x h k =
    list_all-append p xs (x ∷ []) ∙ and_from (list_all p xs) (p x && true) h (and_from (p x) true k refl)

pub all-reverse : {A : Type 0} (p : A → Bool) (xs : List A) → list_all p xs ≡ true → list_all p (reverse xs) ≡ true
all-reverse p [] h = refl
all-reverse p (x ∷ xs) h =
    let both = and_parts (p x) (list_all p xs) h in
    ap (list_all p) (reverse-cons x xs) ∙ all-push p (reverse xs) x (all-reverse p xs both.1) both.0

-- What holds of all items holds if some are left out.
pub all-filter : {A : Type 0} (p q : A → Bool) (xs : List A) → list_all p xs ≡ true → list_all p (filter q xs) ≡ true
all-filter p q [] h = refl
all-filter {A} p q (x ∷ xs) h =
    let both = and_parts (p x) (list_all p xs) h in
    let rest = all-filter p q xs both.1 in
    let Passes : List A → Type 0 = λ ys. list_all p ys ≡ true in
    cond_both (q x) (x ∷ filter q xs) (filter q xs) Passes (λ _. and_from (p x) (list_all p (filter q xs)) both.0 rest) (λ _. rest)

-- The number after the last one isn't in the list.
pub above-all : (last : ℕ) (ns : List ℕ) → are_within last ns ≡ true → has_number (last + 1) ns ≡ false
above-all last [] h = refl
above-all last (n ∷ ns) h =
    let both = and_parts (leb n last) (are_within last ns) h in
    let below : n ≤ last = leb-true n last both.0 in
    let other : eqb n (last + 1) ≡ false = ne_eqb n (last + 1) (λ e. omega arith) in
    or_from (eqb n (last + 1)) (has_number (last + 1) ns) other (above-all last ns both.1)

-- If the next number is given, no number of the list is above it.
pub within-push : (last : ℕ) (ns : List ℕ) → are_within last ns ≡ true → are_within (last + 1) (ns ++ (last + 1) ∷ []) ≡ true
within-push last [] h = and_from (leb (last + 1) (last + 1)) true (le-leb (last + 1) (last + 1) (omega arith)) refl
within-push last (n ∷ ns) h =
    let both = and_parts (leb n last) (are_within last ns) h in
    let below : n ≤ last = leb-true n last both.0 in
    and_from (leb n (last + 1)) (are_within (last + 1) (ns ++ (last + 1) ∷ [])) (le-leb n (last + 1) (omega arith)) (within-push last ns both.1)

-- A number that isn't in a list and differs from another isn't in the list with that one at its end.
other-push : (n m : ℕ) (ns : List ℕ) → has_number n ns ≡ false → eqb m n ≡ false → has_number n (ns ++ m ∷ []) ≡ false
other-push n m ns h other =
    list_any-append (λ k. eqb k n) ns (m ∷ []) ∙ or_from (has_number n ns) (eqb m n || false) h (or_from (eqb m n) false other refl)

-- Distinct numbers stay distinct if a new one is added.
pub distinct-push : (m : ℕ) (ns : List ℕ) → has_number m ns ≡ false → are_distinct ns ≡ true → are_distinct (ns ++ m ∷ []) ≡ true
distinct-push m [] new h = refl
distinct-push m (n ∷ ns) new h =
    let both = and_parts (not (has_number n ns)) (are_distinct ns) h in
    let apart = or_parts (eqb n m) (has_number m ns) new in
    let other : eqb m n ≡ false = ne_eqb m n (λ e. absurd (self_ne m (ap (λ k. eqb k m) e ∙ apart.0))) in
    let new_too = other-push n m ns (not-true _ both.0) other in
    and_from (not (has_number n (ns ++ m ∷ []))) (are_distinct (ns ++ m ∷ [])) (not_from_false _ new_too) (distinct-push m ns apart.1 both.1) where
      self_ne : (k : ℕ) → eqb k k ≡ false → ⊥
      self_ne k e = false≢true (sym e ∙ eq-eqb k k refl)

has_number-filter : (p : ℕ → Bool) (n : ℕ) (ns : List ℕ) → has_number n ns ≡ false → has_number n (filter p ns) ≡ false
has_number-filter p n [] h = refl
has_number-filter p n (m ∷ ns) h =
    let both = or_parts (eqb m n) (has_number n ns) h in
    let rest = has_number-filter p n ns both.1 in
    let Lacks : List ℕ → Type 0 = λ ms. has_number n ms ≡ false in
    cond_both (p m) (m ∷ filter p ns) (filter p ns) Lacks (λ _. or_from (eqb m n) (has_number n (filter p ns)) both.0 rest) (λ _. rest)

-- Distinct numbers stay distinct if some are left out.
pub distinct-filter : (p : ℕ → Bool) (ns : List ℕ) → are_distinct ns ≡ true → are_distinct (filter p ns) ≡ true
distinct-filter p [] h = refl
distinct-filter p (n ∷ ns) h =
    let both = and_parts (not (has_number n ns)) (are_distinct ns) h in
    let rest = distinct-filter p ns both.1 in
    let lacks = has_number-filter p n ns (not-true _ both.0) in
    let Distinct : List ℕ → Type 0 = λ ms. are_distinct ms ≡ true in
    cond_both (p n) (n ∷ filter p ns) (filter p ns) Distinct (λ _. and_from (not (has_number n (filter p ns))) (are_distinct (filter p ns)) (not_from_false _ lacks) rest) (λ _. rest)
