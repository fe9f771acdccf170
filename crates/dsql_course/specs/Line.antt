-- The lines of a course: which of its steps are taken, given what came before, and whole lines of them.
use Rattle.std.specs.Prelude.{ℕ, ℤ, Bool, true, false, ◌==◌, ◌&&◌, ◌||◌, not, negsuc, int_le, if◌then◌else◌, Option, Some, None, is_none, option_map, List, [], ◌∷◌, map, IsTrue}
use Rattle.std.specs.List.{list_any}
use Rattle.dsql_value.specs.Arguments.{count_fault}
use Rattle.dsql_driver.specs.declared.caps.Caps.{Caps}
use Rattle.dsql_course.specs.declared.course.Course.{Course}
use Rattle.dsql_course.specs.declared.course.Course.TheVariants as course
use Rattle.dsql_course.specs.declared.call.Due.{Due}
use Rattle.dsql_course.specs.declared.call.Due.TheVariants as call
use Rattle.dsql_course.specs.declared.call.Got.{Got}
use Rattle.dsql_course.specs.declared.call.Got.TheVariants as got
use Rattle.dsql_course.specs.Steps.{Step, RunText, PrepareText, RunHandle, FetchRow, CloseCursor, CloseHandle, PingIt, BeginIt, UndoIt, steps, step_of, behind}
use Rattle.dsql_course.specs.Made.{Exchange, went_bad, was_skipped, is_done, own_handle, own_cursor, or_else, live_handle, reads_rows, reads_one, has_fast_way, was_decided}

-- What is known when a driver call is made. `stopped` says that the call's token was found cancelled, which
-- stops the call. `bad` says that its connection is known to be bad.
pub record Found : Type 0 where
  pub stopped : Bool
  pub bad : Bool

-- Returns the call if it is wanted.
abbrev pub when : Bool → Due → Option Due
when true call = Some call
when false call = None

-- Returns the run of a handle, if it takes this many arguments.
abbrev pub run_with : ℕ → Option (ℕ × ℤ) → Option Due
run_with args None = None
run_with args (Some handle) = when (is_none (count_fault handle.1 args)) (call.Handle handle.0)

-- Is true if the course closes the handle that it prepared itself. It closes one that is for this call alone,
-- unless rows are handed out over it. It closes a statement's if the call was stopped before its answer.
abbrev pub lets_handle_go : Course → Found → List Exchange → Bool
lets_handle_go course.Exec found made = true
lets_handle_go course.One found made = true
lets_handle_go course.Query found made = is_none (own_cursor made)
lets_handle_go c found made = found.stopped && not (was_decided c made)

-- Returns the driver call of a step, or `None` if the step isn't to be taken. After it is stopped, a call only
-- tidies up. On a connection that is known to be bad it closes nothing.
abbrev pub wanted : Course → Caps → ℕ → Found → List Exchange → Step → Option Due
wanted c can args found made RunText = when (has_fast_way c can && not found.stopped) call.Text
wanted c can args found made PrepareText =
    when (is_none (live_handle c) && (not (has_fast_way c can) || was_skipped made) && not found.stopped) call.Prepare
wanted c can args found made RunHandle =
    if found.stopped then None else run_with args (or_else (own_handle made) (live_handle c))
wanted c can args found made FetchRow =
    if reads_one c && not found.stopped then option_map (λ rows. call.Next rows) (own_cursor made) else None
wanted c can args found made CloseCursor =
    if reads_one c && not found.bad then option_map (λ rows. call.CloseRows rows) (own_cursor made) else None
wanted c can args found made CloseHandle =
    if lets_handle_go c found made
    && not found.bad then option_map (λ handle. call.CloseStmt handle.0) (own_handle made) else None
wanted c can args found made PingIt = when (can.pinger && not found.stopped) call.Ping
wanted c can args found made BeginIt = when (not found.stopped) call.Begin
wanted c can args found made UndoIt = when (found.stopped && list_any (λ x. is_done x.1) made) call.Rollback

-- Returns the call that is wanted, or the other one if none is.
abbrev pub or_then : Option Due → Due → Due
or_then (Some call) other = call
or_then None other = other

-- Returns the call of the first of these steps that is to be taken, or Over if none is.
abbrev pub first_wanted : Course → Caps → ℕ → Found → List Exchange → List Step → Due
first_wanted c can args found made [] = call.Over
first_wanted c can args found made (step ∷ later) =
    or_then (wanted c can args found made step) (first_wanted c can args found made later)

-- Returns the steps after this one, or none if there is no step.
abbrev pub behind_call : Option Step → List Step → List Step
behind_call None all = []
behind_call (Some step) all = behind step all

abbrev pub steps_left : Course → List Exchange → List Step
steps_left c [] = steps c
steps_left c (x ∷ earlier) = behind_call (step_of x.0) (steps c)

-- Returns the call that comes next. It is the call of the first step that is to be taken, after the last one
-- that was. After a Bad nothing comes.
abbrev pub comes_next : Course → Caps → ℕ → Found → List Exchange → Due
comes_next c can args found made =
    if went_bad made then call.Over else first_wanted c can args found made (steps_left c made)

-- Is true if the call may have this answer.
abbrev pub may_get : Course → Due → Got → Bool
may_get c call.Over answer = false
may_get c _ got.Bad = true
may_get c _ got.Fail = true
may_get c call.Text got.Skip = true
may_get c call.Text got.Result = not (reads_rows c)
may_get c call.Text (got.Cursor rows) = reads_rows c
may_get c (call.Handle handle) got.Result = not (reads_rows c)
may_get c (call.Handle handle) (got.Cursor rows) = reads_rows c
may_get c call.Prepare (got.Prepared handle inputs) = int_le (negsuc 0) inputs
may_get c (call.Next rows) got.Row = true
may_get c (call.Next rows) got.End = true
may_get c (call.CloseRows rows) got.Done = true
may_get c (call.CloseStmt handle) got.Done = true
may_get c call.Ping got.Done = true
may_get c call.Begin got.Done = true
may_get c call.Rollback got.Done = true
may_get c _ answer = false

abbrev pub same_call : Due → Due → Bool
same_call call.Text call.Text = true
same_call call.Prepare call.Prepare = true
same_call (call.Handle handle) (call.Handle other) = handle == other
same_call (call.Next rows) (call.Next other) = rows == other
same_call (call.CloseRows rows) (call.CloseRows other) = rows == other
same_call (call.CloseStmt handle) (call.CloseStmt other) = handle == other
same_call call.Ping call.Ping = true
same_call call.Begin call.Begin = true
same_call call.Rollback call.Rollback = true
same_call call.Over call.Over = true
same_call _ _ = false

-- A driver call that was made, with what was known then, and its answer.
pub record Turn : Type 0 where
  pub found : Found
  pub call : Due
  pub answer : Got

abbrev pub exchange : Turn → Exchange
exchange turn = (turn.call, turn.answer)

-- Is true if the turns so far, newest first, are a line of the course. Each call was the one that comes next,
-- and its answer one that it may have.
abbrev pub is_line : Course → Caps → ℕ → List Turn → Bool
is_line c can args [] = true
is_line c can args (turn ∷ earlier) =
    is_line c can args earlier
    && same_call turn.call (comes_next c can args turn.found (map exchange earlier))
    && may_get c turn.call turn.answer

abbrev pub IsLine : Course → Caps → ℕ → List Turn → Type 0
IsLine c can args turns = IsTrue (is_line c can args turns)
