-- Proves that a number without a thing has none after changes, and has the new one if that is appended under
-- it.
use Rattle.std.proofs.Common.{◌≡◌, ◌≢◌, ℕ, ◌==◌, true, false, cond, [], ◌∷◌, ◌++◌, map, Some, None, refl, ap, subst, ◌∙◌, ◌⊎◌, inl, inr}
use Rattle.std.specs.Option.{option_map, option_or}
use Rattle.dsql_laws_calls.specs.numbered.Numbered.{Numbered, thing_of, changed}
use Rattle.dsql_laws_calls.proofs.numbered.Numbers.{changes_one_number}
use Rattle.dsql_laws_calls.proofs.laws_work.Rows.{same_or_not}

module _ {X : Type 0} where
  pub with_new : (n m : ℕ) (x : X) (things : Numbered X) → thing_of n (things ++ (m, x) ∷ []) ≡ option_or (thing_of n things) (cond (n == m) (Some x) None)
  with_new n m x [] = refl
  with_new n m x (it ∷ later) =
      elim (n == it.0) as (λ b. cond b (Some it.1) (thing_of n (later ++ (m, x) ∷ [])) ≡ option_or (cond b (Some it.1) (thing_of n later)) (cond (n == m) (Some x) None)) [
        | true ↦ refl
        | false ↦ with_new n m x later
      ]

  pub none_changed : (change : X → X) (k n : ℕ) (things : Numbered X) → thing_of n things ≡ None → thing_of n (changed change k things) ≡ None
  none_changed change k n things none = by (same_or_not n k)
    where
      by : (n ≡ k) ⊎ (n ≢ k) → thing_of n (changed change k things) ≡ None
      by (inl same) = subst (λ j. thing_of n (changed change j things) ≡ None) same (changes_one_number.changes change n things ∙ ap (option_map change) none)
      by (inr apart) = changes_one_number.others change k n things apart ∙ none

  pub none_mapped : (f : ℕ × X → ℕ × X) (n : ℕ) (things : Numbered X) → ((it : ℕ × X) → (f it).0 ≡ it.0) → thing_of n things ≡ None → thing_of n (map f things) ≡ None
  none_mapped f n [] keeps none = refl
  none_mapped f n (it ∷ later) keeps none =
      ap (λ k. cond (n == k) (Some (f it).1) (thing_of n (map f later))) (keeps it)
      ∙ elim (n == it.0) as (λ b. cond b (Some it.1) (thing_of n later) ≡ None → cond b (Some (f it).1) (thing_of n (map f later)) ≡ None) [
        | true ↦ λ found. absurd cc
        | false ↦ λ behind. none_mapped f n later keeps behind
      ] none
