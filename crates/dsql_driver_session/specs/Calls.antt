-- How the calls that concern a session alone change it, and how they are answered. A call that can't be carried out
-- leaves the session and has the refusal as its answer.
use Rattle.std.specs.Prelude.{◌≡◌, ℕ, ◌+◌, pos, nat_lt, List, [], ◌∷◌, ◌++◌, length, Option, Some, None, if◌then◌else◌}
use Rattle.std.specs.Option.{option_map_or}
use Rattle.dsql_driver.specs.declared.answer.DriverAnswer.{DriverAnswer}
use Rattle.dsql_driver.specs.declared.answer.DriverAnswer.TheVariants.{Done, Prepared, Cursor, Row, End}
use Rattle.dsql_driver.specs.declared.wire.Answered.{Answered}
use Rattle.dsql_value.specs.declared.value.Value.{Value}
use Rattle.dsql_driver_session.specs.Copies.{copies_of}
use Rattle.dsql_driver_session.specs.Rows.{ResultSetState, next_row, with_advanced, without_cursor}
use Rattle.dsql_driver_session.specs.Session.{SessionState, largest_number, is_live, is_open, cursor_of, without_handle}

-- A session after a call, with the answer.
abbrev pub Kept : Type 0
Kept = SessionState × DriverAnswer

-- Holds if this is the answer, in both copies, and this the session after it.
pub record Keeps (kept : Kept) (answered : Answered) (after : SessionState) : Type 0 where
  pub copies : answered ≡ copies_of kept.1
  pub changed : after ≡ kept.0

-- Returns the session after a text with this many inputs got the next handle, with the answer. It is refused if the
-- handles' numbers are spent.
abbrev pub handle_given : SessionState → List ℕ → ℕ → DriverAnswer → Kept
handle_given session text inputs refusal = let handle = session.last_handle + 1 in
    if nat_lt session.last_handle largest_number then (
      record session {
        prepared = session.prepared
            ++ (record { handle = handle; text = text }) ∷ [];
        last_handle = handle;
      },
      Prepared handle (pos inputs),
    )
    else (session, refusal)

-- Returns the session after a handle was closed, with the answer. It is refused if the handle isn't live.
abbrev pub closed : SessionState → ℕ → DriverAnswer → Kept
closed session handle refusal =
    if is_live handle session then (record session { prepared = without_handle handle session.prepared }, Done)
    else (session, refusal)

-- Returns the session after a query's rows got the next cursor, with the answer. It is refused if the cursors' numbers
-- are spent.
abbrev pub opened : SessionState → ResultSetState → DriverAnswer → Kept
opened session set refusal = let rows = session.last_cursor + 1 in
    if nat_lt session.last_cursor largest_number then (
      record session {
        cursors = session.cursors
            ++ (record { number = rows; width = length set.columns; left = set.rows }) ∷ [];
        last_cursor = rows;
      },
      Cursor rows set.columns,
    )
    else (session, refusal)

-- Returns the session and the answer after a cursor gave a row, or none was left.
abbrev pub given : SessionState → ℕ → Option (List Value) → Kept
given session rows None = (session, End)
given session rows (Some row) = (record session { cursors = with_advanced rows session.cursors }, Row row)

-- Returns the session after a cursor's next row was taken, with the answer. It is refused if the cursor isn't live.
abbrev pub next_taken : SessionState → ℕ → DriverAnswer → Kept
next_taken session rows refusal =
    option_map_or (λ c. given session rows (next_row c)) (cursor_of rows session) (session, refusal)

-- Returns the session after a cursor was closed, with the answer. It is refused if the cursor isn't live.
abbrev pub rows_closed : SessionState → ℕ → DriverAnswer → Kept
rows_closed session rows refusal =
    if is_open rows session then (record session { cursors = without_cursor rows session.cursors }, Done)
    else (session, refusal)
