-- What is found under a number after a change.
use Rattle.std.proofs.Common.{◌≡◌, ◌≢◌, ℕ, Bool, true, false, cond, eqb, [], ◌∷◌, ◌++◌, Option, Some, None, refl, sym, ap, ◌∙◌}
use Rattle.std.specs.Prelude.{is_some}
use Rattle.std.specs.Option.{option_map}
use Rattle.std.proofs.lemmas.Bool.{eqb-true, eq-eqb, ne_eqb, cond-true}
use Rattle.std.proofs.lemmas.Map.Made.{lookup-map_values}
use Rattle.dsql_value_numbered.specs.Numbered.{Numbered, thing_of, was_made, changed}
use Rattle.dsql_value_numbered.specs.Laws.{ChangesOneNumber, ChangesEach}

module _ {X : Type 0} where
  found_new : (n : ℕ) (new : X) (things : Numbered X) → was_made n things ≡ false → thing_of n (things ++ (n, new) ∷ []) ≡ Some new
  found_new n new [] h = cond-true (eqb n n) (Some new) None (eq-eqb n n refl)
  found_new n new (it ∷ later) h =
      elim (eqb n it.0) as (λ b. is_some (cond b (Some it.1) (thing_of n later)) ≡ false → cond b (Some it.1) (thing_of n (later ++ (n, new) ∷ [])) ≡ Some new) [
        | true ↦ λ made. cc
        | false ↦ λ not. found_new n new later not
      ] h

  found_changed : (change : X → X) (n : ℕ) (things : Numbered X) → thing_of n (changed change n things) ≡ option_map change (thing_of n things)
  found_changed change n [] = refl
  found_changed change n (it ∷ later) =
      elim (eqb n it.0) as (λ b. eqb n it.0 ≡ b → thing_of n (cond b ((it.0, change it.1) ∷ later) (it ∷ changed change n later)) ≡ option_map change (cond b (Some it.1) (thing_of n later))) [
        | true ↦ λ here. cond-true (eqb n it.0) (Some (change it.1)) (thing_of n later) here
        | false ↦ λ behind. ap (λ (b : Bool). cond b (Some it.1) (thing_of n (changed change n later))) behind ∙ found_changed change n later
      ] refl

  beside_new : (n other : ℕ) (new : X) (things : Numbered X) → eqb other n ≡ false → thing_of other (things ++ (n, new) ∷ []) ≡ thing_of other things
  beside_new n other new [] apart = ap (λ (b : Bool). cond b (Some new) None) apart
  beside_new n other new (it ∷ later) apart = ap (λ (o : Option X). cond (eqb other it.0) (Some it.1) o) (beside_new n other new later apart)

  beside_changed : (change : X → X) (n other : ℕ) (things : Numbered X) → other ≢ n → thing_of other (changed change n things) ≡ thing_of other things
  beside_changed change n other [] apart = refl
  beside_changed change n other (it ∷ later) apart =
      elim (eqb n it.0) as (λ b. eqb n it.0 ≡ b → thing_of other (cond b ((it.0, change it.1) ∷ later) (it ∷ changed change n later)) ≡ cond (eqb other it.0) (Some it.1) (thing_of other later)) [
        | true ↦ λ here.
            let at : n ≡ it.0 = eqb-true n it.0 here in
            let not : eqb other it.0 ≡ false = ne_eqb other it.0 (λ same. apart (same ∙ sym at)) in
            ap (λ (b : Bool). cond b (Some (change it.1)) (thing_of other later)) not ∙ sym (ap (λ (b : Bool). cond b (Some it.1) (thing_of other later)) not)
        | false ↦ λ behind. ap (λ (o : Option X). cond (eqb other it.0) (Some it.1) o) (beside_changed change n other later apart)
      ] refl

  pub changes_one_number : ChangesOneNumber X
  changes_one_number = record {
    made = found_new;
    others_beside_new = λ n other new things apart. beside_new n other new things (ne_eqb other n apart);
    changes = found_changed;
    others = beside_changed;
  }

  pub changes_each : ChangesEach X
  changes_each change n things = lookup-map_values change (λ k. eqb n k) things
