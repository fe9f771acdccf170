-- What a call in a transaction sends next, decided by what was heard in its line.
use Rattle.std.specs.Prelude.{ℕ, Bool, List, Option, Some, None}
use Rattle.dsql_history.specs.driver.declared.caps.Caps.{Caps}
use Rattle.dsql_history.specs.driver.declared.call.DriverCall.{DriverCall}
use Rattle.dsql_history.specs.course.declared.call.Due.{Due}
use Rattle.dsql_history.specs.course.declared.call.Due.TheVariants as due
use Rattle.dsql_history.specs.course.declared.course.Course.TheVariants as courses
use Rattle.dsql_history.specs.course.declared.course.Wish.{Wish}
use Rattle.dsql_history.specs.course.Made.{Exchange}
use Rattle.dsql_history.specs.course.Line.{comes_next}
use Rattle.dsql_history.specs.course.Rows.{rows_next_of}
use Rattle.dsql_history.specs.works.declared.work.Aim.{Aim}
use Rattle.dsql_history.specs.works.Line.{Asked, course_of, handed, found, body_after}
use Rattle.dsql_engine_exchanged.specs.declared.exchanged.Exchanged.{Exchanged}
use Rattle.dsql_history.specs.Rules.Sent.{untested}
use Rattle.dsql_engine_exchanged.specs.declared.bare.BareCall.{BareCall}
use Rattle.dsql_engine_exchanged.specs.declared.bare.BareCall.TheVariants as bare

-- Returns what is sent next after this was heard in the line.
abbrev pub inside_told : Caps → Bool → Asked → Wish → Exchanged → Option DriverCall
inside_told can bad asked wish it = body_after (untested can) bad asked wish it.made

-- Returns the next step of the course with this many parameters. If rows were handed out, returns the next step
-- over them, if anything is wanted from them.
abbrev pub step_with : Caps → Bool → Aim → ℕ → Wish → List Exchange → Option ℕ → Option Due
step_with can bad aim count wish made None = Some (comes_next (course_of aim) can count (found bad) made)
step_with can bad aim count wish made (Some rows) = rows_next_of courses.Query bad wish can count made rows

abbrev pub step_inside : Caps → Bool → Aim → ℕ → Wish → List Exchange → Option Due
step_inside can bad aim count wish made = step_with can bad aim count wish made (handed aim made)

-- Returns the driver call for a step of a course, which is none at the end of it.
abbrev pub bare_of : Due → Option BareCall
bare_of due.Text = Some bare.Text
bare_of due.Prepare = Some bare.Prepare
bare_of (due.Handle handle) = Some (bare.Handle handle)
bare_of (due.Next rows) = Some (bare.Next rows)
bare_of (due.CloseRows rows) = Some (bare.CloseRows rows)
bare_of (due.CloseStmt handle) = Some (bare.CloseStmt handle)
bare_of due.Ping = Some bare.Ping
bare_of _ = None

abbrev pub bare_step : Option Due → Option BareCall
bare_step None = None
bare_step (Some call) = bare_of call

-- Returns what is sent next, whatever the text and the parameters are.
abbrev pub bare_inside : Caps → Bool → Aim → ℕ → Wish → List Exchange → Option BareCall
bare_inside can bad aim count wish made = bare_step (step_inside (untested can) bad aim count wish made)
