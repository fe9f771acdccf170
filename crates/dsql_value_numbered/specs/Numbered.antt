-- Things by their numbers, in the order in which they were made.
use Rattle.std.specs.Prelude.{ℕ, Bool, ◌==◌, if◌then◌else◌, List, [], ◌∷◌, map, Option, is_some}
use Rattle.std.specs.Map.{lookup}

abbrev pub Numbered : Type 0 → Type 0
Numbered X = List (ℕ × X)

module _ {X : Type 0} where
  -- Returns the thing of that number.
  abbrev pub thing_of : ℕ → Numbered X → Option X
  thing_of n things = lookup (λ k. n == k) things

  abbrev pub was_made : ℕ → Numbered X → Bool
  was_made n things = is_some (thing_of n things)

  -- Returns the things with the one of that number changed.
  abbrev pub changed : (X → X) → ℕ → Numbered X → Numbered X
  changed change n [] = []
  changed change n (it ∷ later) = if n == it.0 then (it.0, change it.1) ∷ later else it ∷ changed change n later

  -- Returns the things with each one changed.
  abbrev pub all_changed : (X → X) → Numbered X → Numbered X
  all_changed change things = map (λ it. (it.0, change it.1)) things
