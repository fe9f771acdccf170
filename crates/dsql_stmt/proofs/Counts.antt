-- How many items of a list pass a test, and what a look-up finds. The proofs go by induction on the list.
use Rattle.std.proofs.Common.{◌≡◌, ℕ, ◌+◌, ◌≤◌, Bool, true, false, cond, ◌||◌, List, [], ◌∷◌, ◌++◌, filter, Some, None, refl, sym, ap, ◌∙◌, true≢false, arith}
use Rattle.std.specs.Prelude.{count_by, not}
use Rattle.std.specs.List.{list_any}
use Rattle.std.specs.Map.{lookup}
use Rattle.std.proofs.lemmas.Bool.{cond-true}
use Rattle.std.proofs.lemmas.Option.{none-some}
use Rattle.std.proofs.lemmas.List.Sums.{sum_by-cons, sum_by_push}

module _ {X : Type 0} (p : X → Bool) where
  counted : (x : X) (xs : List X) → count_by p (x ∷ xs) ≡ cond (p x) 1 0 + count_by p xs
  counted x xs = sum_by-cons (λ (y : X). cond (p y) 1 0) x xs

  pub counted_one : (x : X) (xs : List X) → p x ≡ true → count_by p (x ∷ xs) ≡ 1 + count_by p xs
  counted_one x xs h = counted x xs ∙ ap (λ (b : Bool). cond b 1 0 + count_by p xs) h

  counted_none : (x : X) (xs : List X) → p x ≡ false → count_by p (x ∷ xs) ≡ 0 + count_by p xs
  counted_none x xs h = counted x xs ∙ ap (λ (b : Bool). cond b 1 0 + count_by p xs) h

  pub counted_more : (x : X) (xs : List X) → count_by p xs ≤ count_by p (x ∷ xs)
  counted_more x xs = omega (arith, counted x xs)

  -- No more items pass if some are left out.
  pub count_by-filter : (keep : X → Bool) (xs : List X) → count_by p (filter keep xs) ≤ count_by p xs
  count_by-filter keep [] = omega arith
  count_by-filter keep (x ∷ xs) =
      let rest = count_by-filter keep xs in
      elim (keep x) as (λ b. count_by p (cond b (x ∷ filter keep xs) (filter keep xs)) ≤ count_by p (x ∷ xs)) [
        | true ↦ omega (arith, rest, counted x (filter keep xs), counted x xs)
        | false ↦ omega (arith, rest, counted_more x xs)
      ]

  -- One more item at the end counts one more if it passes.
  pub count_by-push : (xs : List X) (x : X) → count_by p (xs ++ x ∷ []) ≡ count_by p xs + cond (p x) 1 0
  count_by-push xs x = sum_by_push (λ (y : X). cond (p y) 1 0) xs x

  -- If no item passes, the count is 0.
  pub none_counted : (xs : List X) → list_any p xs ≡ false → count_by p xs ≡ 0
  none_counted [] h = refl
  none_counted (x ∷ xs) h =
      elim (p x) as (λ b. p x ≡ b → (b || list_any p xs) ≡ false → count_by p (x ∷ xs) ≡ 0) [
        | true ↦ λ passes any. absurd (true≢false any)
        | false ↦ λ fails none. omega (arith, none_counted xs none, counted_none x xs fails)
      ] refl h

  -- If the items that pass are left out, none that passes is left.
  pub none_left : (xs : List X) → list_any p (filter (λ x. not (p x)) xs) ≡ false
  none_left [] = refl
  none_left (x ∷ xs) =
      elim (p x) as (λ b. p x ≡ b → list_any p (cond (not b) (x ∷ filter (λ x. not (p x)) xs) (filter (λ x. not (p x)) xs)) ≡ false) [
        | true ↦ λ passes. none_left xs
        | false ↦ λ stays. ap (λ (b : Bool). b || list_any p (filter (λ x. not (p x)) xs)) stays ∙ none_left xs
      ] refl

module _ {K V : Type 0} (test : K → Bool) where
  -- Returns how many entries a look-up may find.
  abbrev pub count_of : List (K × V) → ℕ
  count_of es = count_by (λ (e : K × V). test e.0) es

  -- An entry that is found is counted.
  pub found_counted : (es : List (K × V)) (v : V) → lookup test es ≡ Some v → 1 ≤ count_of es
  found_counted [] v h = absurd (none-some v h)
  found_counted (e ∷ es) v h =
      elim (test e.0) as (λ b. test e.0 ≡ b → cond b (Some e.1) (lookup test es) ≡ Some v → 1 ≤ count_of (e ∷ es)) [
        | true ↦ λ here _. omega (arith, counted_one (λ (e : K × V). test e.0) e es here)
        | false ↦ λ apart behind. omega (arith, found_counted es v behind, counted_more (λ (e : K × V). test e.0) e es)
      ] refl h

  -- If no entry is counted, none is found.
  pub uncounted : (es : List (K × V)) → count_of es ≡ 0 → lookup test es ≡ None
  uncounted [] h = refl
  uncounted (e ∷ es) h =
      elim (test e.0) as (λ b. test e.0 ≡ b → cond b (Some e.1) (lookup test es) ≡ None) [
        | true ↦ λ here. absurd (omega (arith, h, counted_one (λ (e : K × V). test e.0) e es here))
        | false ↦ λ apart. uncounted es (omega (arith, h, counted_more (λ (e : K × V). test e.0) e es))
      ] refl

  -- If no entry is found, none is counted.
  pub unfound : (es : List (K × V)) → lookup test es ≡ None → count_of es ≡ 0
  unfound [] h = refl
  unfound (e ∷ es) h =
      elim (test e.0) as (λ b. test e.0 ≡ b → cond b (Some e.1) (lookup test es) ≡ None → count_of (e ∷ es) ≡ 0) [
        | true ↦ λ here some. absurd (none-some e.1 (sym some))
        | false ↦ λ apart none. omega (arith, unfound es none, counted_none (λ (e : K × V). test e.0) e es apart)
      ] refl h

  -- An entry at the end is found if none is found before it.
  pub lookup-new : (es : List (K × V)) (new : K × V) → test new.0 ≡ true → lookup test es ≡ None → lookup test (es ++ new ∷ []) ≡ Some new.1
  lookup-new [] new passes h = cond-true (test new.0) (Some new.1) None passes
  lookup-new (e ∷ es) new passes h =
      elim (test e.0) as (λ b. cond b (Some e.1) (lookup test es) ≡ None → cond b (Some e.1) (lookup test (es ++ new ∷ [])) ≡ Some new.1) [
        | true ↦ λ some. absurd (none-some e.1 (sym some))
        | false ↦ λ none. lookup-new es new passes none
      ] h

  -- An entry at the end that doesn't pass isn't found.
  pub lookup-beside : (es : List (K × V)) (new : K × V) → test new.0 ≡ false → lookup test (es ++ new ∷ []) ≡ lookup test es
  lookup-beside [] new fails = ap (λ (b : Bool). cond b (Some new.1) None) fails
  lookup-beside (e ∷ es) new fails = ap (λ o. cond (test e.0) (Some e.1) o) (lookup-beside es new fails)

  module _ (keep : K × V → Bool) where
    -- If all entries that pass are kept, the same is found.
    pub lookup-kept : ((e : K × V) → test e.0 ≡ true → keep e ≡ true) → (es : List (K × V)) → lookup test (filter keep es) ≡ lookup test es
    lookup-kept h [] = refl
    lookup-kept h (e ∷ es) =
        elim (keep e) as (λ k. keep e ≡ k → lookup test (cond k (e ∷ filter keep es) (filter keep es)) ≡ cond (test e.0) (Some e.1) (lookup test es)) [
          | true ↦ λ kept. ap (λ o. cond (test e.0) (Some e.1) o) (lookup-kept h es)
          | false ↦ λ gone. lookup-kept h es ∙ (elim (test e.0) as (λ b. test e.0 ≡ b → lookup test es ≡ cond b (Some e.1) (lookup test es)) [
            | true ↦ λ passes. absurd (true≢false (sym (h e passes) ∙ gone))
            | false ↦ λ fails. refl
          ] refl)
        ] refl

    -- If no entry that passes is kept, nothing is found.
    pub lookup-gone : ((e : K × V) → test e.0 ≡ true → keep e ≡ false) → (es : List (K × V)) → lookup test (filter keep es) ≡ None
    lookup-gone h [] = refl
    lookup-gone h (e ∷ es) =
        elim (keep e) as (λ k. keep e ≡ k → lookup test (cond k (e ∷ filter keep es) (filter keep es)) ≡ None) [
          | true ↦ λ kept. elim (test e.0) as (λ b. test e.0 ≡ b → cond b (Some e.1) (lookup test (filter keep es)) ≡ None) [
            | true ↦ λ passes. absurd (true≢false (sym kept ∙ h e passes))
            | false ↦ λ fails. lookup-gone h es
          ] refl
          | false ↦ λ gone. lookup-gone h es
        ] refl

    -- If what is found is kept, it is still found.
    pub lookup-first : (v : V) → ((e : K × V) → test e.0 ≡ true → e.1 ≡ v → keep e ≡ true) → (es : List (K × V)) → lookup test es ≡ Some v → lookup test (filter keep es) ≡ Some v
    lookup-first v h [] found = absurd (none-some v found)
    lookup-first v h (e ∷ es) found =
        elim (test e.0) as (λ b. test e.0 ≡ b → cond b (Some e.1) (lookup test es) ≡ Some v → lookup test (cond (keep e) (e ∷ filter keep es) (filter keep es)) ≡ Some v) [
          | true ↦ λ passes here.
              let same : e.1 ≡ v = cc in
              ap (λ (k : Bool). lookup test (cond k (e ∷ filter keep es) (filter keep es))) (h e passes same)
              ∙ (cond-true (test e.0) (Some e.1) (lookup test (filter keep es)) passes ∙ here)
          | false ↦ λ fails behind. elim (keep e) as (λ k. lookup test (cond k (e ∷ filter keep es) (filter keep es)) ≡ Some v) [
            | true ↦ ap (λ (b : Bool). cond b (Some e.1) (lookup test (filter keep es))) fails ∙ lookup-first v h es behind
            | false ↦ lookup-first v h es behind
          ]
        ] refl found
