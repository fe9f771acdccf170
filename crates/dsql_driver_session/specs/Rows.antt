-- The answers to queries, and the cursors that give their rows.
use Rattle.std.specs.Prelude.{ℕ, ◌==◌, Bool, not, List, [], ◌∷◌, length, drop, filter, Option, if◌then◌else◌}
use Rattle.std.specs.List.{slice_get, list_all}
use Rattle.dsql_value.specs.declared.value.Value.{Value}

-- The answer to a query: the names of its columns, and its rows.
pub record ResultSetState : Type 0 where
  pub columns : List (List ℕ)
  pub rows : List (List Value)

-- Is true if each row has this many values.
abbrev pub are_wide : ℕ → List (List Value) → Bool
are_wide width rows = list_all (λ row. length row == width) rows

-- A cursor: its number, the number of its columns, and the rows that are left.
pub record CursorState : Type 0 where
  pub number : ℕ
  pub width : ℕ
  pub left : List (List Value)

-- Is true if each row that is left has one value for each column.
abbrev pub is_wide : CursorState → Bool
is_wide cursor = are_wide cursor.width cursor.left

-- Returns the row that comes next, if one is left.
abbrev pub next_row : CursorState → Option (List Value)
next_row cursor = slice_get cursor.left 0

-- Returns the cursor after its next row was given.
abbrev pub advanced : CursorState → CursorState
advanced cursor = record cursor { left = drop 1 cursor.left }

-- Returns the cursors after the one with this number gave its next row.
abbrev pub with_advanced : ℕ → List CursorState → List CursorState
with_advanced rows [] = []
with_advanced rows (c ∷ cs) = if c.number == rows then advanced c ∷ cs else c ∷ with_advanced rows cs

-- Returns the cursors without this one.
abbrev pub without_cursor : ℕ → List CursorState → List CursorState
without_cursor rows cursors = filter (λ c. not (c.number == rows)) cursors
