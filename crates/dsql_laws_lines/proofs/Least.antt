-- Proves what the least of some numbers is, by induction on their list.
use Rattle.std.proofs.Common.{◌≡◌, ℕ, ◌≤◌, ◌==◌, nat_le, Bool, true, false, ◌&&◌, ◌||◌, cond, List, [], ◌∷◌, filter, Option, Some, None, is_none, refl, sym, ap, ◌∙◌, arith}
use Rattle.std.proofs.lemmas.Bool.Decides.{nat_tests}
use Rattle.std.proofs.lemmas.Map.Views.{any-filter_same}
use Rattle.dsql_laws_calls.specs.journal.Readers.{has}
use Rattle.dsql_laws_calls.specs.history.Readers.Pool.{or_none}
use Rattle.dsql_laws_calls.proofs.laws.Truths.{or_first, or_second}
use Rattle.dsql_laws_calls.proofs.laws.Tests.{same_itself, same_number}
use Rattle.dsql_follows.specs.Turns.{least, lesser}

-- The least number is one of them.
least_in : (xs : List ℕ) (j : ℕ) → least xs ≡ Some j → has j xs ≡ true
least_in [] j h = absurd cc
least_in (x ∷ xs) j h = by (least_in xs) (least xs) refl (ap or_none h)
  where
    here : x ≡ j → has j (x ∷ xs) ≡ true
    here same = or_first (x == j) (has j xs) (ap (λ i. i == j) same ∙ same_itself j)

    among : ((i : ℕ) → least xs ≡ Some i → has i xs ≡ true) → (i : ℕ) → least xs ≡ Some i → (b : Bool) → cond b x i ≡ j → has j (x ∷ xs) ≡ true
    among rest i is true same = here same
    among rest i is false same = or_second (x == j) (has j xs) (ap (λ k. has k xs) (sym same) ∙ rest i is)

    by : ((i : ℕ) → least xs ≡ Some i → has i xs ≡ true) → (o : Option ℕ) → least xs ≡ o → lesser x o ≡ j → has j (x ∷ xs) ≡ true
    by rest None is same = here same
    by rest (Some i) is same = among rest i is (nat_le x i) same

-- A number of the list that is at most each of them is the least.
pub least_is : (k : ℕ) (xs : List ℕ) → has k xs ≡ true → ((j : ℕ) → has j xs ≡ true → k ≤ j) → least xs ≡ Some k
least_is k [] h below = absurd cc
least_is k (x ∷ xs) h below = by (λ there. least_is k xs there (λ j in_rest. below j (or_second (x == j) (has j xs) in_rest))) (x == k) refl h
  where
    first : x ≡ k → (o : Option ℕ) → least xs ≡ o → lesser x o ≡ k
    first same None is = same
    first same (Some i) is =
        let under = below i (or_second (x == i) (has i xs) (least_in xs i is)) in
        let test : nat_le x i ≡ true = grind (arith, nat_tests, under, same) in
        ap (λ b. cond b x i) test ∙ same

    behind : (x == k) ≡ false → lesser x (Some k) ≡ k
    behind other =
        let under = below x (or_first (x == x) (has x xs) (same_itself x)) in
        let test : nat_le x k ≡ false = grind (arith, nat_tests, under, other) in
        ap (λ b. cond b x k) test

    by : (has k xs ≡ true → least xs ≡ Some k) → (b : Bool) → (x == k) ≡ b → (b || has k xs) ≡ true → least (x ∷ xs) ≡ Some k
    by rest true same there = ap Some (first (same_number x k same) (least xs) refl)
    by rest false other there = ap (λ o. Some (lesser x o)) (rest there) ∙ ap Some (behind other)

-- If there is no least number, there are no numbers.
pub none_least : (xs : List ℕ) (k : ℕ) → is_none (least xs) ≡ true → has k xs ≡ false
none_least [] k h = refl
none_least (x ∷ xs) k h = absurd cc

-- A filtered list has those of its numbers that pass the test.
pub has_filtered : (f : ℕ → Bool) (xs : List ℕ) (k : ℕ) → has k (filter f xs) ≡ (f k && has k xs)
has_filtered f xs k = any-filter_same (λ m. m == k) f (f k) (λ m same. ap f (same_number m k same)) xs

pub none_filtered : (f : ℕ → Bool) (xs : List ℕ) → ((k : ℕ) → f k ≡ false) → filter f xs ≡ []
none_filtered f [] none = refl
none_filtered f (x ∷ xs) none = ap (λ b. cond b (x ∷ filter f xs) (filter f xs)) (none x) ∙ none_filtered f xs none
