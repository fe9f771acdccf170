-- Numbers that stand once in a list.
use Rattle.std.specs.Prelude.{ℕ, ◌==◌, Bool, true, not, ◌&&◌, List, [], ◌∷◌}
use Rattle.std.specs.List.{list_any}

abbrev pub stands_in : ℕ → List ℕ → Bool
stands_in n numbers = list_any (λ m. m == n) numbers

-- Is true if no number stands twice in the list.
abbrev pub none_twice : List ℕ → Bool
none_twice [] = true
none_twice (n ∷ later) = not (stands_in n later) && none_twice later
