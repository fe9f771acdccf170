-- What a driver keeps for one connection.
use Rattle.std.specs.Prelude.{◌≡◌, ℕ, ◌==◌, nat_le, Bool, true, not, ◌&&◌, List, [], ◌∷◌, map, reverse, filter, find, Option, option_map}
use Rattle.std.specs.List.{list_any, list_all}
use Rattle.dsql_driver.specs.Wires.{LiveCursor, has_number}
use Rattle.dsql_driver_session.specs.Rows.{CursorState, is_wide}
use Rattle.dsql_driver_session.specs.declared.session.Prepared.{Prepared}

-- A session: the prepared texts with their live handles, oldest first, and the last handle that was given, or 0 if
-- none was. The same for the cursors.
pub record SessionState : Type 0 where
  pub prepared : List Prepared
  pub last_handle : ℕ
  pub cursors : List CursorState
  pub last_cursor : ℕ

-- Returns the session of a new connection.
abbrev pub new_session : SessionState
new_session = record { prepared = []; last_handle = 0; cursors = []; last_cursor = 0 }

-- Returns the largest number that a handle or a cursor may have.
abbrev pub largest_number : ℕ
largest_number = 4294967295

-- Is true if the handle is live.
abbrev pub is_live : ℕ → SessionState → Bool
is_live handle session = list_any (λ p. p.handle == handle) session.prepared

-- Returns the text that was prepared under a live handle.
abbrev pub text_of : ℕ → SessionState → Option (List ℕ)
text_of handle session = option_map (λ p. p.text) (find (λ p. p.handle == handle) session.prepared)

-- Returns the live cursor with this number.
abbrev pub cursor_of : ℕ → SessionState → Option CursorState
cursor_of rows session = find (λ c. c.number == rows) session.cursors

-- Is true if the cursor is live.
abbrev pub is_open : ℕ → SessionState → Bool
is_open rows session = list_any (λ c. c.number == rows) session.cursors

-- Returns the prepared texts without this handle's.
abbrev pub without_handle : ℕ → List Prepared → List Prepared
without_handle handle prepared = filter (λ p. not (p.handle == handle)) prepared

-- Returns the live handles, newest first.
abbrev pub handles_of : SessionState → List ℕ
handles_of session = reverse (map (λ p. p.handle) session.prepared)

-- Returns the live cursors with the numbers of their columns, newest first.
abbrev pub cursors_of : SessionState → List LiveCursor
cursors_of session = reverse (map (λ c. (c.number, c.width)) session.cursors)

-- Is true if none of the numbers is above this one.
abbrev pub are_within : ℕ → List ℕ → Bool
are_within last numbers = list_all (λ n. nat_le n last) numbers

-- Is true if no number is in the list twice.
abbrev pub are_distinct : List ℕ → Bool
are_distinct [] = true
are_distinct (n ∷ ns) = not (has_number n ns) && are_distinct ns

-- Holds if no live handle or cursor is above the last one given, and no two cursors have the same number. And each row
-- that is left has one value for each column of its cursor.
pub record AreSound (last_handle : ℕ) (prepared : List Prepared) (last_cursor : ℕ)
    (cursors : List CursorState) : Type 0 where
  pub handles_within : are_within last_handle (map (λ p. p.handle) prepared) ≡ true
  pub cursors_within : are_within last_cursor (map (λ c. c.number) cursors) ≡ true
  pub distinct : are_distinct (map (λ c. c.number) cursors) ≡ true
  pub wide : list_all is_wide cursors ≡ true

-- Holds if a session's tables are sound.
abbrev pub IsSound : SessionState → Type 0
IsSound session = AreSound session.last_handle session.prepared session.last_cursor session.cursors
