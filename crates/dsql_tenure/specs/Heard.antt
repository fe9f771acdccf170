-- How an entry changes what is kept of live handles and cursors.
use Rattle.std.specs.Prelude.{ℕ, true, false, not, ◌==◌, Option, Some, None, List, ◌∷◌, length, map, if◌then◌else◌}
use Rattle.std.specs.List.{filter}
use Rattle.dsql_driver.specs.declared.call.DriverCall.{DriverCall}
use Rattle.dsql_driver.specs.declared.call.DriverCall.TheVariants.{Prepare, CloseStmt, Query, Next, CloseRows}
use Rattle.dsql_driver.specs.declared.answer.DriverAnswer.{DriverAnswer}
use Rattle.dsql_driver.specs.declared.answer.DriverAnswer.TheVariants.{Prepared, Cursor}
use Rattle.dsql_tenure_journal.specs.declared.entry.Entry.{Entry}
use Rattle.dsql_driver.specs.Kinds.{ends_cursor}
use Rattle.dsql_tenure_asked.specs.declared.live.Handle.{Handle}
use Rattle.dsql_tenure_asked.specs.declared.live.Cursor as kept

-- Returns the handle that the driver answered to a Prepare.
abbrev pub prepared_by : DriverCall → DriverAnswer → Option ℕ
prepared_by (Prepare text) (Prepared handle inputs) = Some handle
prepared_by _ _ = None

-- Returns the handle that is closed.
abbrev pub closed_by : DriverCall → Option ℕ
closed_by (CloseStmt handle) = Some handle
closed_by _ = None

-- Returns the cursor that the driver answered to a Query.
abbrev pub opened_by : DriverCall → DriverAnswer → Option ℕ
opened_by (Query input params) (Cursor rows columns) = Some rows
opened_by _ _ = None

-- Returns the number of columns in an answer.
abbrev pub columns_of : DriverAnswer → ℕ
columns_of (Cursor rows columns) = length columns
columns_of _ = 0

-- Returns the cursor that is closed.
abbrev pub freed_by : DriverCall → Option ℕ
freed_by (CloseRows rows) = Some rows
freed_by _ = None

-- Returns the cursor that has no further row.
abbrev pub finished_by : DriverCall → DriverAnswer → Option ℕ
finished_by (Next rows) answer = if ends_cursor answer then Some rows else None
finished_by _ _ = None

-- Returns the handles with one that is given, and without one that is closed.
abbrev pub handles_with : Option ℕ → Option ℕ → Entry → List Handle → List Handle
handles_with (Some number) closed entry handles =
    record { number = number; tenure = entry.tenure; owner = entry.owner; tx = entry.tx } ∷ handles
handles_with None (Some number) entry handles = filter (λ h. not (h.number == number)) handles
handles_with None None entry handles = handles

-- Returns the cursor, over if it has that number.
abbrev pub over_if : ℕ → kept.Cursor → kept.Cursor
over_if number cursor = if cursor.number == number then record cursor { over = true } else cursor

-- Returns the cursors with one that is given, without one that is closed, and with the rows of one over.
abbrev pub cursors_with : Option ℕ → Option ℕ → Option ℕ → Entry → List kept.Cursor → List kept.Cursor
cursors_with (Some number) freed finished entry cursors =
    record {
      number = number;
      tenure = entry.tenure;
      tx = entry.tx;
      columns = columns_of entry.answer;
      over = false;
    } ∷ cursors
cursors_with None (Some number) finished entry cursors = filter (λ c. not (c.number == number)) cursors
cursors_with None None (Some number) entry cursors = map (over_if number) cursors
cursors_with None None None entry cursors = cursors
