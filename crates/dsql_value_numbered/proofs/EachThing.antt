-- A change of all things, made one after another from the front.
use Rattle.std.proofs.Common.{◌≡◌, ℕ, zero, suc, ◌+◌, ◌≤◌, [], ◌∷◌, length, slice_get, Some, refl, sym, ap, arith}
use Rattle.std.specs.Map.{values_of}
use Rattle.indexmap.specs.IndexMap.{set_value_at}
use Rattle.dsql_value_numbered.specs.Numbered.{Numbered, all_changed}

module _ {X : Type 0} (change : X → X) where
  -- Returns the things with the first i of them changed, and the rest as they are.
  abbrev pub changed_before : ℕ → Numbered X → Numbered X
  changed_before zero things = things
  changed_before (suc i) [] = []
  changed_before (suc i) (it ∷ later) = (it.0, change it.1) ∷ changed_before i later

  pub length-changed_before : (i : ℕ) (things : Numbered X) → length (changed_before i things) ≡ length things
  length-changed_before zero things = refl
  length-changed_before (suc i) [] = refl
  length-changed_before (suc i) (it ∷ later) = ap suc (length-changed_before i later)

  -- When the count reaches the end, all things are changed.
  pub changed_before-end : (i : ℕ) (things : Numbered X) → length things ≤ i → changed_before i things ≡ all_changed change things
  changed_before-end zero [] h = refl
  changed_before-end zero (it ∷ later) h = absurd (omega arith)
  changed_before-end (suc i) [] h = refl
  changed_before-end (suc i) (it ∷ later) h = ap (λ (rest : Numbered X). (it.0, change it.1) ∷ rest) (changed_before-end i later (omega arith))

  after_next : (i : ℕ) (things : Numbered X) (x : X) → slice_get (values_of (changed_before i things)) i ≡ Some x → set_value_at (changed_before i things) i (change x) ≡ changed_before (suc i) things
  after_next zero [] x h = refl
  after_next zero (it ∷ later) x h = let same : it.1 ≡ x = cc in ap (λ (y : X). (it.0, change y) ∷ later) (sym same)
  after_next (suc i) [] x h = refl
  after_next (suc i) (it ∷ later) x h = ap (λ (rest : Numbered X). (it.0, change it.1) ∷ rest) (after_next i later x h)

  -- Changing the next thing in its place changes one thing more.
  pub changed_before-next : (i : ℕ) (things : Numbered X) (x : X) → slice_get (values_of (changed_before i things)) i ≡ Some x → set_value_at (changed_before i things) i (change x) ≡ changed_before (i + 1) things
  changed_before-next i things x h = let next : i + 1 ≡ suc i = omega arith in rw next (after_next i things x h)
