-- The newest of a list of lists.
use Rattle.std.specs.Prelude.{List, [], ◌∷◌}

-- Returns the newest list, or the empty one if there is none.
abbrev pub newest : {A : Type 0} → List (List A) → List A
newest [] = []
newest (list ∷ earlier) = list
