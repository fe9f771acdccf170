-- Rows are made once, and end with their transaction each by itself. The argument changes one number at a time.
use Rattle.std.proofs.Common.{◌≡◌, ◌≢◌, ◌==◌, ℕ, zero, suc, Bool, true, false, ◌&&◌, cond, eqb, List, [], ◌∷◌, ◌++◌, map, Some, refl, sym, ap, ◌∙◌, arith, is_some, eqb-true, eq-eqb}
use Rattle.std.specs.Prelude.{if◌then◌else◌, nat_lt}
use Rattle.std.proofs.lemmas.Bool.Decides.{nat_tests}
use Rattle.dsql_history.specs.numbered.Numbered.{Numbered, thing_of, was_made, changed}
use Rattle.dsql_history.proofs.numbered.Numbers.{changes_one_number}
use Rattle.dsql_history.specs.rows.declared.end.RowsEnd.TheVariants.{TxEnded}
use Rattle.dsql_history.specs.rows.declared.rows.Rows.{Rows}
use Rattle.dsql_history.specs.rows.OpenRows.{ended_by}
use Rattle.dsql_history.specs.works.HandedOut.{Made}
use Rattle.dsql_engine_effects.proofs.Fetched.{none_ends}
use Rattle.dsql_history.specs.declared.work.Work.{Work}
use Rattle.dsql_history.specs.Readers.HandedOut.{born}
use Rattle.dsql_engine_effects.specs.Ended.{ended_if, is_such, rows_ended}
use Rattle.dsql_engine_effects.specs.Once.{AreMadeOnce}

-- What happens to the numbers.

module _ {X : Type 0} where
  -- Returns things that were changed each by itself, with their numbers.
  abbrev pub each : (ℕ → X → X) → Numbered X → Numbered X
  each change things = map (λ it. (it.0, change it.0 it.1)) things

  pub made_each : (change : ℕ → X → X) (n : ℕ) (things : Numbered X) → was_made n (each change things) ≡ was_made n things
  made_each change n [] = refl
  made_each change n (it ∷ later) = elim (eqb n it.0) as (λ b. is_some (cond b (Some (change it.0 it.1)) (thing_of n (each change later))) ≡ is_some (cond b (Some it.1) (thing_of n later))) [ true ↦ refl | false ↦ made_each change n later ]

  pub once_each : (change : ℕ → X → X) (things : Numbered X) → AreMadeOnce things → AreMadeOnce (each change things)
  once_each change [] once = tt
  once_each change (it ∷ later) once = (made_each change it.0 later ∙ once.0, once_each change later once.1)

  pub made_changed : (change : X → X) (k n : ℕ) (things : Numbered X) → was_made n (changed change k things) ≡ was_made n things
  made_changed change k n [] = refl
  made_changed change k n (it ∷ later) =
      elim (k == it.0) as (λ b. is_some (thing_of n (if b then (it.0, change it.1) ∷ later else it ∷ changed change k later)) ≡ is_some (cond (eqb n it.0) (Some it.1) (thing_of n later))) [
        | true ↦ elim (eqb n it.0) as (λ b. is_some (cond b (Some (change it.1)) (thing_of n later)) ≡ is_some (cond b (Some it.1) (thing_of n later))) [ true ↦ refl | false ↦ refl ]
        | false ↦ elim (eqb n it.0) as (λ b. is_some (cond b (Some it.1) (thing_of n (changed change k later))) ≡ is_some (cond b (Some it.1) (thing_of n later))) [ true ↦ refl | false ↦ made_changed change k n later ]
      ]

  pub once_changed : (change : X → X) (k : ℕ) (things : Numbered X) → AreMadeOnce things → AreMadeOnce (changed change k things)
  once_changed change k [] once = tt
  once_changed change k (it ∷ later) once =
      elim (k == it.0) as (λ b. AreMadeOnce (if b then (it.0, change it.1) ∷ later else it ∷ changed change k later)) [
        | true ↦ once
        | false ↦ (made_changed change k it.0 later ∙ once.0, once_changed change k later once.1)
      ]

  -- If no thing has the number, neither the first nor a later one has it.
  made_first : (n : ℕ) (it : ℕ × X) (later : Numbered X) → was_made n (it ∷ later) ≡ false → (it.0 ≢ n) × (was_made n later ≡ false)
  made_first n it later none =
      elim (eqb n it.0) as (λ b. eqb n it.0 ≡ b → is_some (cond b (Some it.1) (thing_of n later)) ≡ false → (it.0 ≢ n) × (was_made n later ≡ false)) [
        | true ↦ λ same made. absurd cc
        | false ↦ λ other rest. (λ same. absurd (let is : eqb n it.0 ≡ true = eq-eqb n it.0 (sym same) in cc), rest)
      ] refl none

  pub once_pushed : (n : ℕ) (new : X) (things : Numbered X) → was_made n things ≡ false → AreMadeOnce things → AreMadeOnce (things ++ (n, new) ∷ [])
  once_pushed n new [] none once = (refl, tt)
  once_pushed n new (it ∷ later) none once =
      let first = made_first n it later none in
      (ap is_some (changes_one_number.others_beside_new n it.0 new later first.0) ∙ once.0, once_pushed n new later first.1 once.1)

  -- Equal changes give equal things.
  pub each_same : (f g : ℕ → X → X) (things : Numbered X) → ((n : ℕ) (x : X) → f n x ≡ g n x) → each f things ≡ each g things
  each_same f g [] same = refl
  each_same f g (it ∷ later) same = ap (λ (x : X). (it.0, x) ∷ each f later) (same it.0 it.1) ∙ ap (λ (rest : Numbered X). (it.0, g it.0 it.1) ∷ rest) (each_same f g later same)

  -- Changes that differ only at a number that no thing has give equal things.
  each_but : (f g : ℕ → X → X) (k : ℕ) (things : Numbered X) → was_made k things ≡ false → ((n : ℕ) (x : X) → n ≢ k → f n x ≡ g n x) → each f things ≡ each g things
  each_but f g k [] none same = refl
  each_but f g k (it ∷ later) none same =
      let first = made_first k it later none in
      ap (λ (x : X). (it.0, x) ∷ each f later) (same it.0 it.1 first.0) ∙ ap (λ (rest : Numbered X). (it.0, g it.0 it.1) ∷ rest) (each_but f g k later first.1 same)

  -- If each was made once, one more thing can be changed in its place.
  pub one_more : (f g : ℕ → X → X) (change : X → X) (k : ℕ) (things : Numbered X) → AreMadeOnce things → ((n : ℕ) (x : X) → n ≢ k → f n x ≡ g n x) → ((x : X) → change (f k x) ≡ g k x)
      → changed change k (each f things) ≡ each g things
  one_more f g change k [] once same here = refl
  one_more f g change k (it ∷ later) once same here =
      elim (k == it.0) as (λ b. (k == it.0) ≡ b → (if b then (it.0, change (f it.0 it.1)) ∷ each f later else (it.0, f it.0 it.1) ∷ changed change k (each f later)) ≡ (it.0, g it.0 it.1) ∷ each g later) [
        | true ↦ λ is.
            let at : k ≡ it.0 = eqb-true k it.0 is in
            let here_now : change (f it.0 it.1) ≡ g it.0 it.1 = ap (λ (n : ℕ). change (f n it.1)) (sym at) ∙ (here it.1 ∙ ap (λ (n : ℕ). g n it.1) at) in
            let none : was_made k later ≡ false = ap (λ (n : ℕ). was_made n later) at ∙ once.0 in
            ap (λ (x : X). (it.0, x) ∷ each f later) here_now ∙ ap (λ (rest : Numbered X). (it.0, g it.0 it.1) ∷ rest) (each_but f g k later none same)
        | false ↦ λ is.
            let apart : it.0 ≢ k = λ at. absurd (let so : (k == it.0) ≡ true = eq-eqb k it.0 (sym at) in cc) in
            ap (λ (x : X). (it.0, x) ∷ changed change k (each f later)) (same it.0 it.1 apart) ∙ ap (λ (rest : Numbered X). (it.0, g it.0 it.1) ∷ rest) (one_more f g change k later once.1 same here)
      ] refl

  pub nothing_each : (f : ℕ → X → X) (things : Numbered X) → ((n : ℕ) (x : X) → f n x ≡ x) → each f things ≡ things
  nothing_each f [] same = refl
  nothing_each f (it ∷ later) same = ap (λ (x : X). (it.0, x) ∷ each f later) (same it.0 it.1) ∙ ap (λ (rest : Numbered X). it ∷ rest) (nothing_each f later same)

-- Rows that end with their transaction.

abbrev pub ends_below : (ℕ → Bool) → ℕ → ℕ → Rows → Rows
ends_below such i n rows = born (such n && nat_lt n i) rows

less_or_not : (n i : ℕ) → n ≢ i → nat_lt n i ≡ nat_lt n (suc i)
less_or_not n i apart = grind (arith, nat_tests)

here_not : (b : Bool) (i : ℕ) → (b && nat_lt i i) ≡ false
here_not b i = let still : nat_lt i i ≡ false = grind (arith, nat_tests) in sym (none_ends b (nat_lt i i) still)

here_now : (i : ℕ) → nat_lt i (suc i) ≡ true
here_now i = grind (arith, nat_tests)

none_yet : (b : Bool) (n : ℕ) → (b && nat_lt n 0) ≡ false
none_yet b n = let below : nat_lt n 0 ≡ false = grind (arith, nat_tests) in sym (none_ends b (nat_lt n 0) below)

next_ends : (such : ℕ → Bool) (i : ℕ) (b : Bool) (rows : Made) → such i ≡ b → AreMadeOnce rows → ended_if b i (each (ends_below such i) rows) ≡ each (ends_below such (suc i)) rows
next_ends such i true rows is once =
    one_more (ends_below such i) (ends_below such (suc i)) (ended_by TxEnded) i rows once (λ n x apart. ap (λ (b : Bool). born (such n && b) x) (less_or_not n i apart))
    (λ x. ap (λ (b : Bool). ended_by TxEnded (born b x)) (here_not (such i) i) ∙ sym (ap (λ (b : Bool). born (b && nat_lt i (suc i)) x) is ∙ ap (λ (b : Bool). born b x) (here_now i)))
next_ends such i false rows is once = each_same (ends_below such i) (ends_below such (suc i)) rows (λ n x. either n x (n == i) refl)
  where
    either : (n : ℕ) (x : Rows) (same : Bool) → (n == i) ≡ same → ends_below such i n x ≡ ends_below such (suc i) n x
    either n x true same =
        let at : n ≡ i = eqb-true n i same in
        let not_such : such n ≡ false = ap such at ∙ is in
        ap (λ (b : Bool). born (b && nat_lt n i) x) not_such ∙ sym (ap (λ (b : Bool). born (b && nat_lt n (suc i)) x) not_such)
    either n x false same =
        let apart : n ≢ i = λ at. absurd (let so : (n == i) ≡ true = eq-eqb n i at in cc) in
        ap (λ (b : Bool). born (such n && b) x) (less_or_not n i apart)

pub rows_ended_each : (such : Work → Bool) (from : ℕ) (works : List Work) (i : ℕ) (rows : Made) → AreMadeOnce rows → rows_ended such from works i rows ≡ each (ends_below (is_such such from works) i) rows
rows_ended_each such from works zero rows once = sym (nothing_each (ends_below (is_such such from works) 0) rows (λ n x. ap (λ (b : Bool). born b x) (none_yet (is_such such from works n) n)))
rows_ended_each such from works (suc i) rows once =
    ap (ended_if (is_such such from works i) i) (rows_ended_each such from works i rows once) ∙ next_ends (is_such such from works) i (is_such such from works i) rows refl once
