-- The live handles and cursors of a connection of the tests' driver.
use Rattle.std.specs.Prelude.{ℕ, Bool, true, false, List, [], ◌∷◌}
use Rattle.dsql_driver.specs.Wires.{LiveCursor}

-- Returns the connection's one handle, if it was given.
abbrev pub live_of : Bool → List ℕ
live_of true = 1 ∷ []
live_of false = []

-- Returns the connection's one cursor, which has one column, if it was given.
abbrev pub cursors_of : Bool → List LiveCursor
cursors_of true = (1, 1) ∷ []
cursors_of false = []
