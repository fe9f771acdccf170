-- What the calls of a course have made so far. Lists of exchanges are newest first.
use Rattle.std.specs.Prelude.{ℕ, ℤ, Bool, true, false, ◌&&◌, not, Option, Some, None, List, [], ◌∷◌}
use Rattle.std.specs.List.{list_any}
use Rattle.dsql_driver.specs.declared.caps.Caps.{Caps}
use Rattle.dsql_course.specs.declared.course.Course.{Course}
use Rattle.dsql_course.specs.declared.course.Course.TheVariants as course
use Rattle.dsql_course.specs.declared.call.Due.{Due}
use Rattle.dsql_course.specs.declared.call.Due.TheVariants as call
use Rattle.dsql_course.specs.declared.call.Got.{Got}
use Rattle.dsql_course.specs.declared.call.Got.TheVariants as got

-- A driver call with its answer.
abbrev pub Exchange : Type 0
Exchange = Due × Got

abbrev pub is_bad : Got → Bool
is_bad got.Bad = true
is_bad _ = false

-- Is true if an answer was Bad.
abbrev pub went_bad : List Exchange → Bool
went_bad made = list_any (λ x. is_bad x.1) made

abbrev pub is_skip : Got → Bool
is_skip got.Skip = true
is_skip _ = false

-- Is true if the driver declined to run the text, which must then be prepared.
abbrev pub was_skipped : List Exchange → Bool
was_skipped made = list_any (λ x. is_skip x.1) made

abbrev pub is_done : Got → Bool
is_done got.Done = true
is_done _ = false

-- Returns the handle that an answer gives, with the number of its inputs.
abbrev pub given_handle : Got → Option (ℕ × ℤ)
given_handle (got.Prepared handle inputs) = Some (handle, inputs)
given_handle _ = None

-- Returns the cursor that an answer gives.
abbrev pub given_cursor : Got → Option ℕ
given_cursor (got.Cursor rows) = Some rows
given_cursor _ = None

-- Returns the first option, or the second if the first is None.
abbrev pub or_else : {X : Type 0} → Option X → Option X → Option X
or_else None other = other
or_else (Some x) other = Some x

-- Returns the handle that the course prepared itself, with the number of its inputs.
abbrev pub own_handle : List Exchange → Option (ℕ × ℤ)
own_handle [] = None
own_handle (x ∷ earlier) = or_else (given_handle x.1) (own_handle earlier)

-- Returns the cursor that the course's run gave.
abbrev pub own_cursor : List Exchange → Option ℕ
own_cursor [] = None
own_cursor (x ∷ earlier) = or_else (given_cursor x.1) (own_cursor earlier)

-- Returns the handle that a statement already has on the connection.
abbrev pub live_handle : Course → Option (ℕ × ℤ)
live_handle (course.Run reads one live) = live
live_handle _ = None

-- Is true if the course asks for rows.
abbrev pub reads_rows : Course → Bool
reads_rows course.Query = true
reads_rows course.One = true
reads_rows (course.Run reads one live) = reads
reads_rows _ = false

-- Is true if the course reads one row itself and hands none out.
abbrev pub reads_one : Course → Bool
reads_one course.One = true
reads_one (course.Run reads one live) = reads && one
reads_one _ = false

-- Is true if the driver can run the course's text at once.
abbrev pub has_fast_way : Course → Caps → Bool
has_fast_way course.Exec can = can.fast_exec
has_fast_way course.Query can = can.fast_query
has_fast_way course.One can = can.fast_query
has_fast_way _ can = false

-- Is true if the answer settles the call's reply.
abbrev pub decides : Course → Exchange → Bool
decides c (call.Next rows, answer) = true
decides c (_, got.Result) = true
decides c (_, got.Cursor rows) = not (reads_one c)
decides c (call.Text, got.Fail) = true
decides c (call.Prepare, got.Fail) = true
decides c (call.Handle handle, got.Fail) = true
decides c _ = false

abbrev pub was_decided : Course → List Exchange → Bool
was_decided c made = list_any (decides c) made

-- Is true if the cursor gives no more rows after the exchange: a fetch that gave none, or the close of the
-- cursor.
abbrev pub ends_rows : Exchange → Bool
ends_rows (call.Next rows, got.Row) = false
ends_rows (call.Next rows, answer) = true
ends_rows (call.CloseRows rows, answer) = true
ends_rows _ = false

-- Is true if the cursor gives no more rows.
abbrev pub rows_are_over : List Exchange → Bool
rows_are_over made = list_any ends_rows made
