-- What was heard in the line of a call in a transaction, and its own cursor and handle that are open.
use Rattle.std.specs.Prelude.{ℕ, ℤ, ◌==◌, Bool, true, false, not, ◌&&◌, ◌||◌, cond, List, [], ◌∷◌, Option, Some, None}
use Rattle.std.specs.List.{list_any}
use Rattle.dsql_history.specs.driver.declared.call.DriverCall.{DriverCall}
use Rattle.dsql_history.specs.driver.declared.call.DriverCall.TheVariants.{Next, CloseRows, CloseStmt}
use Rattle.dsql_history.specs.driver.declared.answer.DriverAnswer.{DriverAnswer}
use Rattle.dsql_history.specs.driver.Kinds.{given_cursor, given_handle}
use Rattle.dsql_history.specs.course.declared.call.Due.{Due}
use Rattle.dsql_history.specs.course.Made.{Exchange, or_else, given_cursor as cursor_given, given_handle as handle_given}
use Rattle.dsql_history.specs.journal.declared.entry.Entry.{Entry}
use Rattle.dsql_history.specs.journal.Kinds.{is_number}
use Rattle.dsql_history.specs.works.Exchanges.{step_of}
use Rattle.dsql_engine_exchanged.specs.Exchanged.{unheard, then_heard as then_exchanged}
use Rattle.dsql_history.specs.Readers.Lines.{closes_cursor, closes_handle}
use Rattle.dsql_engine_exchanged.specs.declared.heard.HeardLine.{HeardLine}

abbrev pub nothing_heard : HeardLine
nothing_heard = record { heard = unheard; cursor = None; handle = None }

-- Returns the number, unless it is closed.
abbrev pub unless_closed : (ℕ → Bool) → Option ℕ → Option ℕ
unless_closed closes None = None
unless_closed closes (Some number) = cond (closes number) None (Some number)

-- Returns the cursor that is open after a driver call, given as a step of a course, and its answer.
abbrev pub cursor_after : Option Due → DriverAnswer → Option ℕ → Option ℕ
cursor_after None answer cursor = cursor
cursor_after (Some call) answer cursor =
    unless_closed (λ rows. closes_cursor rows call) (or_else (given_cursor answer) cursor)

-- Returns the handle that is open after a driver call, given as a step of a course, and its answer.
abbrev pub handle_after : Option Due → DriverAnswer → Option ℕ → Option ℕ
handle_after None answer handle = handle
handle_after (Some call) answer handle =
    unless_closed (λ number. closes_handle number call) (or_else (given_handle answer) handle)

-- Returns the record of the line with one more answer.
abbrev pub then_heard : Entry → HeardLine → HeardLine
then_heard e it =
    record {
      heard = then_exchanged e it.heard;
      cursor = cursor_after (step_of e.call) e.answer it.cursor;
      handle = handle_after (step_of e.call) e.answer it.handle;
    }

-- Returns the record of a line, newest first.
abbrev pub heard_line : List Entry → HeardLine
heard_line [] = nothing_heard
heard_line (e ∷ earlier) = then_heard e (heard_line earlier)

-- Is true if the driver call is about the open cursor or the open handle.
abbrev pub is_about_open : HeardLine → DriverCall → Bool
is_about_open it (Next rows) = is_number it.cursor rows
is_about_open it (CloseRows rows) = is_number it.cursor rows
is_about_open it (CloseStmt handle) = is_number it.handle handle
is_about_open it _ = false

-- Returns the record with one more answer, which counts if it belongs to the line of this call.
abbrev pub heard_if : ℕ → Entry → HeardLine → HeardLine
heard_if call e it = cond ((e.call_no == call) || is_about_open it e.call) (then_heard e it) it

-- Is true if there is no cursor, or none of these exchanges closes it.
abbrev pub is_cursor_unclosed : Option ℕ → List Exchange → Bool
is_cursor_unclosed None made = true
is_cursor_unclosed (Some rows) made = not (list_any (λ x. closes_cursor rows x.0) made)

-- Is true if there is no handle, or none of these exchanges closes it.
abbrev pub is_handle_unclosed : Option (ℕ × ℤ) → List Exchange → Bool
is_handle_unclosed None made = true
is_handle_unclosed (Some handle) made = not (list_any (λ x. closes_handle handle.0 x.0) made)

-- Is true if no cursor and no handle was given after it had been closed.
abbrev pub none_given_again : List Exchange → Bool
none_given_again [] = true
none_given_again (x ∷ earlier) =
    is_cursor_unclosed (cursor_given x.1) earlier
    && (is_handle_unclosed (handle_given x.1) earlier && none_given_again earlier)
