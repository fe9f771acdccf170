-- Tests of numbers, truth values and lists.
use Rattle.std.proofs.Common.{◌≡◌, ℕ, Bool, true, false, not, ◌==◌, ◌&&◌, ◌||◌, List, [], ◌∷◌, refl}
use native.Mathlib.Omega.{arith}
use Rattle.std.proofs.lemmas.Bool.Decides.{nat_tests}
use Rattle.dsql_history.specs.journal.Readers.{is_empty}

pub same_number : (n m : ℕ) → (n == m) ≡ true → n ≡ m
same_number n m h = grind (arith, nat_tests)

pub is_itself : (n : ℕ) → (n == n) ≡ true
is_itself n = grind (arith, nat_tests)

pub impossible : false ≡ true → ⊥
impossible h = cc

pub never : true ≡ false → ⊥
never h = cc

pub true_false : (b : Bool) → b ≡ true → b ≡ false → ⊥
true_false b h k = cc

pub not_true : (b : Bool) → not b ≡ true → b ≡ false
not_true true h = absurd cc
not_true false h = refl

pub neither : (a b : Bool) → a || b ≡ false → (a ≡ false) × (b ≡ false)
neither true b h = absurd cc
neither false b h = (refl, h)

-- Adding one disjunct under a negation adds one condition.
pub one_less : (a c l : Bool) → a && not (c || l) ≡ true → (a && not l ≡ true) × (c ≡ false)
one_less a true l h = grind (arith, h)
one_less a false l h = (h, refl)

pub neither_of : (a b : Bool) → a ≡ false → b ≡ false → a || b ≡ false
neither_of a b h k = grind (arith, h, k)

pub or_later : (a b : Bool) → b ≡ true → a || b ≡ true
or_later true b h = refl
or_later false b h = h

pub not_first : (b c : Bool) → b ≡ false → b && c ≡ true → ⊥
not_first true c h k = never h
not_first false c h k = impossible k

pub none_of : {X : Type 0} (xs : List X) → is_empty xs ≡ true → xs ≡ []
none_of [] h = refl
none_of (x ∷ xs) h = absurd cc

pub not_none : {X : Type 0} (xs : List X) (x : X) → xs ≡ x ∷ [] → is_empty xs ≡ true → ⊥
not_none xs x is h = impossible (rw is at h)
