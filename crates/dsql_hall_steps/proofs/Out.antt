-- The work that is out: the work of each connection is there once, and striking it off takes exactly that. The argument
-- goes through the list.
use Rattle.std.proofs.Common.{◌≡◌, ◌≢◌, ◌⊎◌, inl, inr, ◌==◌, ◌+◌, ◌<◌, ◌≤◌, ◌&&◌, ℕ, zero, suc, List, [], ◌∷◌, Option, Some, None, cond, Bool, true, false, length, refl, sym, ap, subst, ◌∙◌, arith, eqb-true}
use Rattle.std.specs.Prelude.{is_none, is_some}
use Rattle.dsql_player_wires.proofs.Journals.{same_or_not}
use Rattle.dsql_hall_bonds.specs.Work.{Work, find, without}
use Rattle.dsql_hall_bonds.proofs.Finding.{find_here, find_other, find_without, find_without_other}
use Rattle.dsql_hall_steps.specs.Halls.{are_apart}

-- Work is found on its own connection.
pub found_conn : (c : ℕ) (work : Work) (out : List Work) → find c out ≡ Some work → work.conn ≡ c
found_conn c work [] is = absurd cc
found_conn c work (x ∷ xs) is = by (found_conn c work xs) (x.conn == c) refl is
  where
    by : (find c xs ≡ Some work → work.conn ≡ c) → (same : Bool) → (x.conn == c) ≡ same → cond same (Some x) (find c xs) ≡ Some work → work.conn ≡ c
    by rest true e here = let it : x ≡ work = cc in ap (λ (w : Work). w.conn) (sym it) ∙ eqb-true x.conn c e
    by rest false e here = rest here

-- What is found after new work went out, and after work was struck off.

pub found_with : (work : Work) (out : List Work) (c : ℕ) (it : Work) → find c (work ∷ out) ≡ Some it → ((c ≡ work.conn) × (it ≡ work)) ⊎ ((c ≢ work.conn) × (find c out ≡ Some it))
found_with work out c it is = elim (same_or_not c work.conn) [
  | inl same ↦ let there : Some it ≡ Some work = sym is ∙ (ap (λ k. find k (work ∷ out)) same ∙ find_here work out) in inl (same, cc)
  | inr apart ↦ inr (apart, sym (find_other work out c (λ met. apart (sym met))) ∙ is)
]

pub found_without : (conn : ℕ) (out : List Work) (c : ℕ) (it : Work) → find c (without conn out) ≡ Some it → (c ≢ conn) × (find c out ≡ Some it)
found_without conn out c it is = elim (same_or_not c conn) [
  | inl same ↦ let none : find c (without conn out) ≡ None = ap (λ k. find k (without conn out)) same ∙ find_without conn out in let clash : None ≡ Some it = sym none ∙ is in absurd cc
  | inr apart ↦ (apart, sym (find_without_other conn c out (λ met. apart (sym met))) ∙ is)
]

-- Where nothing is out nothing is struck off.
pub none_struck : (c : ℕ) (out : List Work) → find c out ≡ None → without c out ≡ out
none_struck c [] none = refl
none_struck c (x ∷ xs) none = by (none_struck c xs) (x.conn == c) none
  where
    by : (find c xs ≡ None → without c xs ≡ xs) → (same : Bool) → cond same (Some x) (find c xs) ≡ None → cond same (without c xs) (x ∷ without c xs) ≡ x ∷ xs
    by rest true here = absurd cc
    by rest false here = ap (λ more. x ∷ more) (rest here)

both_are : (a b : Bool) → a ≡ true → b ≡ true → (a && b) ≡ true
both_are a b one two = ap (λ x. x && b) one ∙ two

first_is : (a b : Bool) → (a && b) ≡ true → a ≡ true
first_is true b is = refl
first_is false b is = absurd cc

second_is : (a b : Bool) → (a && b) ≡ true → b ≡ true
second_is true b is = is
second_is false b is = absurd cc

pub none_of : {A : Type 0} (o : Option A) → is_some o ≡ false → o ≡ None
none_of None none = refl
none_of (Some x) none = absurd cc

is_none_so : {A : Type 0} (o : Option A) → is_none o ≡ true → o ≡ None
is_none_so None is = refl
is_none_so (Some x) is = absurd cc

-- Work stays apart as more goes out on another connection, and as some comes back.

pub apart_with : (work : Work) (out : List Work) → find work.conn out ≡ None → are_apart out ≡ true → are_apart (work ∷ out) ≡ true
apart_with work out none apart = both_are (is_none (find work.conn out)) (are_apart out) (ap is_none none) apart

still_none : (conn c : ℕ) (out : List Work) → find c out ≡ None → find c (without conn out) ≡ None
still_none conn c out none = elim (same_or_not conn c) [
  | inl same ↦ subst (λ k. find c (without k out) ≡ None) (sym same) (find_without c out)
  | inr apart ↦ find_without_other conn c out apart ∙ none
]

pub apart_without : (conn : ℕ) (out : List Work) → are_apart out ≡ true → are_apart (without conn out) ≡ true
apart_without conn [] apart = refl
apart_without conn (x ∷ xs) apart = by (apart_without conn xs (second_is (is_none (find x.conn xs)) (are_apart xs) apart)) (x.conn == conn)
  where
    none : find x.conn xs ≡ None
    none = is_none_so (find x.conn xs) (first_is (is_none (find x.conn xs)) (are_apart xs) apart)

    by : are_apart (without conn xs) ≡ true → (same : Bool) → are_apart (cond same (without conn xs) (x ∷ without conn xs)) ≡ true
    by rest true = rest
    by rest false = apart_with x (without conn xs) (still_none conn x.conn xs none) rest

-- Just one piece of work comes back.
pub one_struck : (c : ℕ) (work : Work) (out : List Work) → are_apart out ≡ true → find c out ≡ Some work → length out ≡ length (without c out) + 1
one_struck c work [] apart is = absurd cc
one_struck c work (x ∷ xs) apart is = by (one_struck c work xs (second_is (is_none (find x.conn xs)) (are_apart xs) apart)) (x.conn == c) refl is
  where
    none : find x.conn xs ≡ None
    none = is_none_so (find x.conn xs) (first_is (is_none (find x.conn xs)) (are_apart xs) apart)

    by : (find c xs ≡ Some work → length xs ≡ length (without c xs) + 1)
        → (same : Bool)
        → (x.conn == c) ≡ same
        → cond same (Some x) (find c xs) ≡ Some work
        → length (x ∷ xs) ≡ length (cond same (without c xs) (x ∷ without c xs)) + 1
    by rest true e here =
        let gone : without c xs ≡ xs = subst (λ k. without k xs ≡ xs) (eqb-true x.conn c e) (none_struck x.conn xs none) in
        let same : length (without c xs) ≡ length xs = ap (λ (more : List Work). length more) gone in
        omega (arith, same)
    by rest false e here = let one : length xs ≡ length (without c xs) + 1 = rest here in omega (arith, one)

-- Work with numbers below n is at most n pieces.
pub few_out : (n : ℕ) (out : List Work) → are_apart out ≡ true → ((c : ℕ) (work : Work) → find c out ≡ Some work → c < n) → length out ≤ n
few_out zero out apart below = by out below
  where
    by : (some : List Work) → ((c : ℕ) (work : Work) → find c some ≡ Some work → c < 0) → length some ≤ 0
    by [] below = omega arith
    by (x ∷ xs) below = let none = below x.conn x (find_here x xs) in absurd (omega (arith, none))
few_out (suc n) out apart below = by (few_out n (without n out) (apart_without n out apart) rest) (find n out) refl
  where
    rest : (c : ℕ) (work : Work) → find c (without n out) ≡ Some work → c < n
    rest c work is = let old = found_without n out c work is in let under = below c work old.1 in let other = old.0 in omega (arith, under, other)

    by : length (without n out) ≤ n → (o : Option Work) → find n out ≡ o → length out ≤ suc n
    by fewer None is = let same : length (without n out) ≡ length out = ap (λ (l : List Work). length l) (none_struck n out is) in omega (arith, fewer, same)
    by fewer (Some work) is = let one = one_struck n work out apart is in omega (arith, fewer, one)
