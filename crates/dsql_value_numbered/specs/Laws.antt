-- Laws of things with numbers: what happens to them.
use Rattle.std.specs.Prelude.{◌≡◌, ◌≢◌, ℕ, false, [], ◌∷◌, ◌++◌, Some}
use Rattle.std.specs.Option.{option_map}
use Rattle.dsql_value_numbered.specs.Numbered.{Numbered, thing_of, was_made, changed, all_changed}

-- Holds if what is made or changed is the thing of that number and no other.
pub record ChangesOneNumber (X : Type 0) : Type 0 where
  pub made : (n : ℕ) (new : X) (things : Numbered X) → was_made n things ≡ false
      → thing_of n (things ++ (n, new) ∷ []) ≡ Some new
  pub others_beside_new : (n other : ℕ) (new : X) (things : Numbered X) → other ≢ n
      → thing_of other (things ++ (n, new) ∷ []) ≡ thing_of other things
  pub changes : (change : X → X) (n : ℕ) (things : Numbered X) → thing_of n (changed change n things)
      ≡ option_map change (thing_of n things)
  pub others : (change : X → X) (n other : ℕ) (things : Numbered X) → other ≢ n
      → thing_of other (changed change n things) ≡ thing_of other things

-- Holds if a change of all things changes each for itself.
abbrev pub ChangesEach : Type 0 → Type 0
ChangesEach X =
    (change : X → X) (n : ℕ) (things : Numbered X) → thing_of n (all_changed change things)
    ≡ option_map change (thing_of n things)
