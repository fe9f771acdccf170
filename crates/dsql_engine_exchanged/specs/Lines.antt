-- Defines the next driver call on a connection, given what was heard there since it was lent.
use Rattle.std.specs.Prelude.{ℕ, Bool, false, cond, List, Option, Some, None}
use Rattle.dsql_history.specs.driver.declared.caps.Caps.{Caps}
use Rattle.dsql_history.specs.driver.declared.call.DriverCall.{DriverCall}
use Rattle.dsql_history.specs.driver.declared.call.DriverCall.TheVariants.{Reset}
use Rattle.dsql_history.specs.course.declared.call.Due.{Due}
use Rattle.dsql_history.specs.course.declared.call.Due.TheVariants as due
use Rattle.dsql_history.specs.course.declared.course.Wish.{Wish}
use Rattle.dsql_history.specs.course.Made.{Exchange}
use Rattle.dsql_history.specs.course.Line.{comes_next}
use Rattle.dsql_history.specs.course.Rows.{rows_next}
use Rattle.dsql_history.specs.works.declared.work.Aim.{Aim}
use Rattle.dsql_history.specs.works.Line.{Asked, found, course_of, handed, body_after}
use Rattle.dsql_engine_exchanged.specs.declared.bare.BareCall.{BareCall}
use Rattle.dsql_engine_exchanged.specs.declared.bare.BareCall.TheVariants as bare
use Rattle.dsql_engine_exchanged.specs.declared.exchanged.Exchanged.{Exchanged}
use Rattle.dsql_engine_exchanged.specs.declared.exchanged.Stage.{Stage}
use Rattle.dsql_engine_exchanged.specs.declared.exchanged.Stage.TheVariants.{Fresh, Going, Over}

-- Returns the next driver call at this stage, given what was exchanged.
abbrev pub line_at_stage : Caps → Bool → Asked → Wish → List Exchange → Stage → Option DriverCall
line_at_stage can reset_due asked wish made Fresh = cond reset_due (Some Reset) (body_after can false asked wish made)
line_at_stage can reset_due asked wish made Going = body_after can false asked wish made
line_at_stage can reset_due asked wish made Over = None

-- Returns the next driver call, given what was heard.
abbrev pub line_told : Caps → Bool → Asked → Wish → Exchanged → Option DriverCall
line_told can reset_due asked wish it = line_at_stage can reset_due asked wish it.made it.stage

-- Returns the next call of the course with this many parameters. After rows were handed out, it returns the
-- next call over them, or `None` if they stay as they are.
abbrev pub step_with : Caps → Aim → ℕ → Wish → List Exchange → Option ℕ → Option Due
step_with can aim count wish made None = Some (comes_next (course_of aim) can count (found false) made)
step_with can aim count wish made (Some rows) = rows_next wish can count made rows

abbrev pub step_after : Caps → Aim → ℕ → Wish → List Exchange → Option Due
step_after can aim count wish made = step_with can aim count wish made (handed aim made)

-- Returns the driver call for a call of a course. At the end of the course it is the test of the connection, if
-- the driver can test one.
abbrev pub bare_of : Caps → Due → Option BareCall
bare_of can due.Text = Some bare.Text
bare_of can due.Prepare = Some bare.Prepare
bare_of can (due.Handle handle) = Some (bare.Handle handle)
bare_of can (due.Next rows) = Some (bare.Next rows)
bare_of can (due.CloseRows rows) = Some (bare.CloseRows rows)
bare_of can (due.CloseStmt handle) = Some (bare.CloseStmt handle)
bare_of can due.Ping = Some bare.Ping
bare_of can _ = cond can.validator (Some bare.Valid) None

abbrev pub bare_step : Caps → Option Due → Option BareCall
bare_step can None = None
bare_step can (Some call) = bare_of can call

abbrev pub bare_at_stage : Caps → Bool → Aim → ℕ → Wish → List Exchange → Stage → Option BareCall
bare_at_stage can reset_due aim count wish made Fresh =
    cond reset_due (Some bare.Reset) (bare_step can (step_after can aim count wish made))
bare_at_stage can reset_due aim count wish made Going = bare_step can (step_after can aim count wish made)
bare_at_stage can reset_due aim count wish made Over = None

-- Returns the next driver call without its text and its parameters, given what was heard.
abbrev pub bare_told : Caps → Bool → Aim → ℕ → Wish → Exchanged → Option BareCall
bare_told can reset_due aim count wish it = bare_at_stage can reset_due aim count wish it.made it.stage
