-- What comes next for rows that a query handed out, as long as they keep its connection.
use Rattle.std.specs.Prelude.{ℕ, Bool, true, false, List, Option, Some, None}
use Rattle.dsql_driver.specs.declared.caps.Caps.{Caps}
use Rattle.dsql_course.specs.declared.course.Course.{Course}
use Rattle.dsql_course.specs.declared.course.Course.TheVariants as course
use Rattle.dsql_course.specs.declared.course.Wish.{Wish}
use Rattle.dsql_course.specs.declared.course.Wish.TheVariants as wish
use Rattle.dsql_course.specs.declared.call.Due.{Due}
use Rattle.dsql_course.specs.declared.call.Due.TheVariants as call
use Rattle.dsql_course.specs.Made.{Exchange, rows_are_over}
use Rattle.dsql_course.specs.Line.{Found, comes_next}

-- Returns the knowledge that no more rows are wanted, on a connection that may be known to be bad.
abbrev pub no_more_wanted : Bool → Found
no_more_wanted bad = record { stopped = true; bad = bad }

abbrev pub but_no_handle : Due → Due
but_no_handle (call.CloseStmt handle) = call.Over
but_no_handle due = due

-- Returns the call that closes rows of this course. A query prepared the handle for itself and closes it with
-- its rows. A statement keeps its handle.
abbrev pub closed_with : Course → Due → Due
closed_with (course.Run reads one live) due = but_no_handle due
closed_with _ due = due

-- Returns what comes next to close the rows that a course handed out. It is what comes next for a call that
-- reads one row and wants no more. That call closes the cursor and the handle that is its own.
abbrev pub closing_of : Course → Bool → Caps → ℕ → List Exchange → Due
closing_of c bad can args made = closed_with c (comes_next course.One can args (no_more_wanted bad) made)

-- Returns what comes next for rows. Those that are over or to be closed are closed. Otherwise a row is fetched
-- if one is wanted. Otherwise they stay as they are, and nothing comes.
abbrev pub rows_next_if : Bool → Wish → Due → ℕ → Option Due
rows_next_if true it close rows = Some close
rows_next_if false wish.Close close rows = Some close
rows_next_if false wish.Fetch close rows = Some (call.Next rows)
rows_next_if false wish.Nothing close rows = None

abbrev pub rows_next_of : Course → Bool → Wish → Caps → ℕ → List Exchange → ℕ → Option Due
rows_next_of c bad it can args made rows = rows_next_if (rows_are_over made) it (closing_of c bad can args made) rows

-- Returns what comes next to close the rows of a query, on a connection that isn't known to be bad from
-- elsewhere.
abbrev pub closing_next : Caps → ℕ → List Exchange → Due
closing_next can args made = closing_of course.Query false can args made

abbrev pub rows_next : Wish → Caps → ℕ → List Exchange → ℕ → Option Due
rows_next it can args made rows = rows_next_of course.Query false it can args made rows
