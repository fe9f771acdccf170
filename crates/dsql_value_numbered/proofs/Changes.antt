-- A thing of a number that is found, changed and written back.
use Rattle.std.proofs.Common.{◌≡◌, ℕ, true, false, cond, eqb, ◌∷◌, [], Some, None, refl, sym, ap}
use Rattle.std.specs.Prelude.{is_some}
use Rattle.std.specs.Map.{set_value}
use Rattle.dsql_value_numbered.specs.Numbered.{Numbered, thing_of, was_made, changed}

module _ {X : Type 0} where
  -- Writing back a change of the thing that was found is changing the thing of that number.
  pub set_value-changed : (change : X → X) (n : ℕ) (things : Numbered X) (old : X) → thing_of n things ≡ Some old → set_value (λ k. eqb n k) things (change old) ≡ changed change n things
  set_value-changed change n [] old h = refl
  set_value-changed change n (it ∷ later) old h =
      elim (eqb n it.0) as (λ b. cond b (Some it.1) (thing_of n later) ≡ Some old → cond b ((it.0, change old) ∷ later) (it ∷ set_value (λ k. eqb n k) later (change old)) ≡ cond b ((it.0, change it.1) ∷ later) (it ∷ changed change n later)) [
        | true ↦ λ found. let same : it.1 ≡ old = cc in ap (λ (x : X). (it.0, change x) ∷ later) (sym same)
        | false ↦ λ behind. ap (λ (rest : Numbered X). it ∷ rest) (set_value-changed change n later old behind)
      ] h

  pub not_made : (n : ℕ) (things : Numbered X) → was_made n things ≡ false → thing_of n things ≡ None
  not_made n things h = elim (thing_of n things) as (λ o. is_some o ≡ false → o ≡ None) [ None ↦ λ k. refl | Some x ↦ λ k. cc ] h
