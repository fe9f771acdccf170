-- What the thing of a number keeps, whatever is made and changed.
use Rattle.std.proofs.Common.{ℕ, true, false, cond, eqb, [], ◌∷◌, ◌++◌, Option, Some, None, sym, subst}
use Rattle.std.specs.Option.{option_map}
use Rattle.dsql_value_numbered.specs.Numbered.{Numbered, thing_of, changed, all_changed}
use Rattle.dsql_value_numbered.proofs.Numbers.{changes_each}

module _ {X : Type 0} (P : X → Type 0) where
  -- Holds if there is a thing and the property holds of it.
  abbrev pub Has : Option X → Type 0
  Has None = ⊥
  Has (Some x) = P x

  abbrev pub Keeps : (X → X) → Type 0
  Keeps change = (x : X) → P x → P (change x)

  pub kept_beside_new : (n other : ℕ) (new : X) (things : Numbered X) → Has (thing_of n things) → Has (thing_of n (things ++ (other, new) ∷ []))
  kept_beside_new n other new [] h = absurd h
  kept_beside_new n other new (it ∷ later) h =
      elim (eqb n it.0) as (λ b. Has (cond b (Some it.1) (thing_of n later)) → Has (cond b (Some it.1) (thing_of n (later ++ (other, new) ∷ [])))) [
        | true ↦ λ here. here
        | false ↦ λ behind. kept_beside_new n other new later behind
      ] h

  module _ (change : X → X) (keeps : Keeps change) where
    kept_in : (o : Option X) → Has o → Has (option_map change o)
    kept_in None h = h
    kept_in (Some x) h = keeps x h

    pub kept_by_change : (n other : ℕ) (things : Numbered X) → Has (thing_of n things) → Has (thing_of n (changed change other things))
    kept_by_change n other [] h = absurd h
    kept_by_change n other (it ∷ later) h =
        elim (eqb other it.0) as (λ b. Has (thing_of n (cond b ((it.0, change it.1) ∷ later) (it ∷ changed change other later)))) [
          | true ↦ elim (eqb n it.0) as (λ b. Has (cond b (Some it.1) (thing_of n later)) → Has (cond b (Some (change it.1)) (thing_of n later))) [
            | true ↦ λ here. keeps it.1 here
            | false ↦ λ behind. behind
          ] h
          | false ↦ elim (eqb n it.0) as (λ b. Has (cond b (Some it.1) (thing_of n later)) → Has (cond b (Some it.1) (thing_of n (changed change other later)))) [
            | true ↦ λ here. here
            | false ↦ λ behind. kept_by_change n other later behind
          ] h
        ]

    pub kept_by_all : (n : ℕ) (things : Numbered X) → Has (thing_of n things) → Has (thing_of n (all_changed change things))
    kept_by_all n things h = subst Has (sym (changes_each change n things)) (kept_in (thing_of n things) h)
