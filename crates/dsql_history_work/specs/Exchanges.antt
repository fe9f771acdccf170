-- Defines the exchanges with the driver in a tenure, as the course of a call sees them, newest first.
use Rattle.std.specs.Prelude.{List, [], ◌∷◌, Option, Some, None}
use Rattle.dsql_driver.specs.declared.call.DriverCall.{DriverCall}
use Rattle.dsql_driver.specs.declared.call.DriverCall.TheVariants.{Ping, Prepare, Exec, Query, Next, CloseRows, CloseStmt}
use Rattle.dsql_driver.specs.declared.call.Input.TheVariants as input
use Rattle.dsql_driver.specs.declared.answer.DriverAnswer.{DriverAnswer}
use Rattle.dsql_driver.specs.declared.answer.DriverAnswer.TheVariants as answers
use Rattle.dsql_course.specs.declared.call.Due.{Due}
use Rattle.dsql_course.specs.declared.call.Due.TheVariants as due
use Rattle.dsql_course.specs.declared.call.Got.{Got}
use Rattle.dsql_course.specs.declared.call.Got.TheVariants as got
use Rattle.dsql_course.specs.Made.{Exchange}
use Rattle.dsql_tenure_journal.specs.declared.entry.Entry.{Entry}

-- Returns the step of a course that a driver call makes. A Reset and a test make none.
abbrev pub step_of : DriverCall → Option Due
step_of (Exec (input.Text text) params) = Some due.Text
step_of (Exec (input.Handle handle) params) = Some (due.Handle handle)
step_of (Query (input.Text text) params) = Some due.Text
step_of (Query (input.Handle handle) params) = Some (due.Handle handle)
step_of (Prepare text) = Some due.Prepare
step_of (Next rows) = Some (due.Next rows)
step_of (CloseRows rows) = Some (due.CloseRows rows)
step_of (CloseStmt handle) = Some (due.CloseStmt handle)
step_of Ping = Some due.Ping
step_of _ = None

-- Returns the answer as far as later driver calls depend on it.
abbrev pub got_of : DriverAnswer → Got
got_of answers.Done = got.Done
got_of (answers.Prepared handle inputs) = got.Prepared handle inputs
got_of (answers.Result last affected) = got.Result
got_of (answers.Cursor rows columns) = got.Cursor rows
got_of (answers.Row values) = got.Row
got_of answers.End = got.End
got_of answers.Skip = got.Skip
got_of answers.Bad = got.Bad
got_of _ = got.Fail

-- Returns the exchanges after one more driver call.
abbrev pub with_exchange : Option Due → DriverAnswer → List Exchange → List Exchange
with_exchange None answer made = made
with_exchange (Some call) answer made = (call, got_of answer) ∷ made

abbrev pub exchanges : List Entry → List Exchange
exchanges [] = []
exchanges (e ∷ earlier) = with_exchange (step_of e.call) e.answer (exchanges earlier)
