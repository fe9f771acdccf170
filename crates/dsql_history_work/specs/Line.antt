-- Defines the driver calls on a connection that is lent to a call. They are a Reset if it is due, those of the call's
-- course, and those over its rows. A Valid comes last, if the driver can test and the connection isn't known to be bad.
use Rattle.std.specs.Prelude.{ℕ, ◌==◌, Bool, true, false, ◌&&◌, ◌||◌, cond, List, [], ◌∷◌, length, Option, Some, None, bytes_eq}
use Rattle.dsql_value.specs.declared.value.Param.{Param}
use Rattle.dsql_driver.specs.declared.caps.Caps.{Caps}
use Rattle.dsql_driver.specs.declared.call.DriverCall.{DriverCall}
use Rattle.dsql_driver.specs.declared.call.DriverCall.TheVariants.{Reset, Valid, Ping, Prepare, Exec, Query, Next, CloseRows, CloseStmt}
use Rattle.dsql_driver.specs.declared.call.Input.{Input}
use Rattle.dsql_driver.specs.declared.call.Input.TheVariants.{Text, Handle}
use Rattle.dsql_course.specs.declared.course.Course.{Course}
use Rattle.dsql_course.specs.declared.course.Course.TheVariants as courses
use Rattle.dsql_course.specs.declared.call.Due.{Due}
use Rattle.dsql_course.specs.declared.call.Due.TheVariants as course
use Rattle.dsql_course.specs.declared.course.Wish.{Wish}
use Rattle.dsql_course.specs.Made.{Exchange, own_cursor}
use Rattle.dsql_course.specs.Line.{Found, comes_next}
use Rattle.dsql_course.specs.Rows.{rows_next_of}
use Rattle.dsql_tenure_journal.specs.declared.entry.Entry.{Entry}
use Rattle.dsql_driver.specs.Kinds.{is_bad, is_valid}
use Rattle.dsql_history_work.specs.declared.work.Aim.{Aim}
use Rattle.dsql_history_work.specs.declared.work.Aim.TheVariants as aims
use Rattle.dsql_history_work.specs.Same.{same_params}
use Rattle.dsql_history_work.specs.Exchanges.{exchanges}

-- Returns the test, if the driver has one.
abbrev pub test_of : Caps → Option DriverCall
test_of can = cond can.validator (Some Valid) None

-- A call's request to the driver: a text with parameters and an aim. The text is executed, one row of it is
-- read, or its rows are handed out. A ping has no text.
pub record Asked : Type 0 where
  pub text : List ℕ
  pub params : List Param
  pub aim : Aim

-- Returns the course of a call with this aim.
abbrev pub course_of : Aim → Course
course_of aims.Execute = courses.Exec
course_of aims.ReadOne = courses.One
course_of aims.HandOut = courses.Query
course_of aims.Ping = courses.Ping

-- Returns the driver call that runs a text or a handle.
abbrev pub run_for : Aim → Input → List Param → DriverCall
run_for aims.Execute input params = Exec input params
run_for _ input params = Query input params

abbrev pub run_of : Asked → Input → DriverCall
run_of asked input = run_for asked.aim input asked.params

-- Returns what is known as a call is made that nothing has stopped, on a connection that is known to be bad or isn't.
-- On one that is known to be bad nothing is due.
abbrev pub found : Bool → Found
found bad = record { stopped = false; bad = bad }

-- Returns the driver call that makes this step of the course. The test of the connection comes at the end of
-- the course.
abbrev pub sent_as : Caps → Asked → Due → Option DriverCall
sent_as can asked course.Text = Some (run_of asked (Text asked.text))
sent_as can asked course.Prepare = Some (Prepare asked.text)
sent_as can asked (course.Handle handle) = Some (run_of asked (Handle handle))
sent_as can asked (course.Next rows) = Some (Next rows)
sent_as can asked (course.CloseRows rows) = Some (CloseRows rows)
sent_as can asked (course.CloseStmt handle) = Some (CloseStmt handle)
sent_as can asked course.Ping = Some Ping
sent_as can asked _ = test_of can

-- Returns the cursor of the rows that the call hands out, if any.
abbrev pub handed : Aim → List Exchange → Option ℕ
handed aims.HandOut made = own_cursor made
handed aim made = None

-- Returns the driver call that is sent over rows, if any.
abbrev pub sent_over : Caps → Asked → Option Due → Option DriverCall
sent_over can asked None = None
sent_over can asked (Some call) = sent_as can asked call

-- Returns the driver call that is sent next after these exchanges, on a connection that is known to be bad or isn't.
-- The call's course gives it, or, after the call has handed out rows, what is wanted of them.
abbrev pub body_with : Caps → Bool → Asked → Wish → List Exchange → Option ℕ → Option DriverCall
body_with can bad asked wish made None =
    sent_as can asked (comes_next (course_of asked.aim) can (length asked.params) (found bad) made)
body_with can bad asked wish made (Some rows) =
    sent_over can asked (rows_next_of courses.Query bad wish can (length asked.params) made rows)

abbrev pub body_after : Caps → Bool → Asked → Wish → List Exchange → Option DriverCall
body_after can bad asked wish made = body_with can bad asked wish made (handed asked.aim made)

-- Returns the driver call that is sent next after these entries of the tenure, newest first. Nothing comes
-- after a Bad or a test.
abbrev pub line_after : Caps → Bool → Asked → Wish → List Entry → Option DriverCall
line_after can reset_due asked wish [] = cond reset_due (Some Reset) (body_after can false asked wish [])
line_after can reset_due asked wish (e ∷ earlier) =
    cond (is_bad e.answer || is_valid e.call) None (body_after can false asked wish (exchanges (e ∷ earlier)))

-- Is true if the driver call is the one that is due.
abbrev pub is_due_in_line : Option DriverCall → DriverCall → Bool
is_due_in_line (Some Reset) Reset = true
is_due_in_line (Some Valid) Valid = true
is_due_in_line (Some Ping) Ping = true
is_due_in_line (Some (Prepare text)) (Prepare other) = bytes_eq text other
is_due_in_line (Some (Exec (Text text) params)) (Exec (Text other) others) =
    bytes_eq text other && same_params params others
is_due_in_line (Some (Exec (Handle handle) params)) (Exec (Handle other) others) =
    (handle == other) && same_params params others
is_due_in_line (Some (Query (Text text) params)) (Query (Text other) others) =
    bytes_eq text other && same_params params others
is_due_in_line (Some (Query (Handle handle) params)) (Query (Handle other) others) =
    (handle == other) && same_params params others
is_due_in_line (Some (Next rows)) (Next other) = rows == other
is_due_in_line (Some (CloseRows rows)) (CloseRows other) = rows == other
is_due_in_line (Some (CloseStmt handle)) (CloseStmt other) = handle == other
is_due_in_line _ call = false
