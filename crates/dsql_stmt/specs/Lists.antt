-- Empty lists that were allocated beforehand.
use Rattle.std.specs.Prelude.{◌≡◌, ℕ, ◌≤◌, List, [], All, Vec, vec_capacity}

-- The number of lists, and the number of items that each has room for.
pub record Ready : Type 0 where
  pub count : ℕ
  pub size : ℕ

-- Holds if each list is empty and has room for this many items.
abbrev pub AreEmptyOf : {A : Type 0} → ℕ → List (Vec (ℕ × ℕ) A) → Type 0
AreEmptyOf size lists = All (λ list. (list.items ≡ []) × (size ≤ vec_capacity list)) lists
