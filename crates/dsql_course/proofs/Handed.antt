-- Rows that are over, or that are to be closed, are closed. The proofs compute what comes after each newest
-- call.
use Rattle.std.proofs.Common.{◌≡◌, ℕ, Bool, true, false, not, ◌&&◌, ◌||◌, if◌then◌else◌, List, [], ◌∷◌, refl, ap, ◌∙◌, Some, None}
use Rattle.dsql_driver.specs.declared.caps.Caps.{Caps}
use Rattle.dsql_course.specs.declared.course.Wish.TheVariants as wish
use Rattle.dsql_course.specs.declared.call.Due.{Due}
use Rattle.dsql_course.specs.declared.call.Due.TheVariants as call
use Rattle.dsql_course.specs.declared.call.Got.{Got}
use Rattle.dsql_course.specs.Made.{Exchange, went_bad, was_skipped, own_handle, own_cursor, rows_are_over}
use Rattle.dsql_course.specs.declared.course.Course.{Course}
use Rattle.dsql_course.specs.declared.course.Course.TheVariants as course
use Rattle.dsql_course.specs.Line.{comes_next}
use Rattle.dsql_course.specs.Rows.{no_more_wanted, but_no_handle, closed_with, closing_next, rows_next_if}
use Rattle.dsql_course.specs.Laws.{RowsAreClosed, RowsOfAnyCourse, uses_rows}

-- A text isn't prepared if no more is wanted.
unprepared : (fast skipped : Bool) → (not fast || skipped) && false ≡ false
unprepared true true = refl
unprepared true false = refl
unprepared false skipped = refl

cursor_first : (can : Caps) (args rows : ℕ) (newest : Exchange) (earlier : List Exchange) → uses_rows newest.0 ≡ true → went_bad (newest ∷ earlier) ≡ false
    → own_cursor (newest ∷ earlier) ≡ Some rows → closing_next can args (newest ∷ earlier) ≡ call.CloseRows rows
cursor_first can args rows (call.Text, answer) earlier uses good cursor =
    rw (good, cursor, unprepared can.fast_query (was_skipped ((call.Text, answer) ∷ earlier))) refl
cursor_first can args rows (call.Handle handle, answer) earlier uses good cursor = rw (good, cursor) refl
cursor_first can args rows (call.Next fetched, answer) earlier uses good cursor = rw (good, cursor) refl
cursor_first can args rows _ earlier uses good cursor = absurd cc

either : (b : Bool) (d : Due) → (if b then d else d) ≡ d
either true d = refl
either false d = refl

none_after : (can : Caps) (args rows : ℕ) (answer : Got) (earlier : List Exchange) → own_handle ((call.CloseRows rows, answer) ∷ earlier) ≡ None
    → closing_next can args ((call.CloseRows rows, answer) ∷ earlier) ≡ call.Over
none_after can args rows answer earlier none = rw none (either (went_bad ((call.CloseRows rows, answer) ∷ earlier)) call.Over)

closed_or_over : (b : Bool) (close : Due) (rows : ℕ) → rows_next_if b wish.Close close rows ≡ Some close
closed_or_over true close rows = refl
closed_or_over false close rows = refl

pub rows_are_closed : RowsAreClosed
rows_are_closed = record {
  left = λ can args rows made h. rw h refl;
  fetched = λ can args rows made h. rw h refl;
  closed = λ can args rows made. closed_or_over (rows_are_over made) (closing_next can args made) rows;
  over = λ it can args rows made h. rw h refl;
  cursor = cursor_first;
  handle = λ can args rows handle inputs answer earlier good own. rw (good, own) refl;
  no_handle = none_after;
  last = λ can args handle answer earlier. either (went_bad ((call.CloseStmt handle, answer) ∷ earlier)) call.Over;
}

and_false : (b : Bool) → b && false ≡ false
and_false true = refl
and_false false = refl

-- On a connection that is known to be bad nothing is closed.
nothing_on_bad : (can : Caps) (args : ℕ) (made : List Exchange) → comes_next course.One can args (no_more_wanted true) made ≡ call.Over
nothing_on_bad can args [] = rw (and_false can.fast_query, unprepared can.fast_query false) refl
nothing_on_bad can args ((call.Text, answer) ∷ earlier) =
    let made = (call.Text, answer) ∷ earlier in
    rw (unprepared can.fast_query (was_skipped made)) (either (went_bad made) call.Over)
nothing_on_bad can args ((call.Prepare, answer) ∷ earlier) = either (went_bad ((call.Prepare, answer) ∷ earlier)) call.Over
nothing_on_bad can args ((call.Handle handle, answer) ∷ earlier) = either (went_bad ((call.Handle handle, answer) ∷ earlier)) call.Over
nothing_on_bad can args ((call.Next rows, answer) ∷ earlier) = either (went_bad ((call.Next rows, answer) ∷ earlier)) call.Over
nothing_on_bad can args ((call.CloseRows rows, answer) ∷ earlier) = either (went_bad ((call.CloseRows rows, answer) ∷ earlier)) call.Over
nothing_on_bad can args ((call.CloseStmt handle, answer) ∷ earlier) = either (went_bad ((call.CloseStmt handle, answer) ∷ earlier)) call.Over
nothing_on_bad can args ((call.Ping, answer) ∷ earlier) = either (went_bad ((call.Ping, answer) ∷ earlier)) call.Over
nothing_on_bad can args ((call.Begin, answer) ∷ earlier) = either (went_bad ((call.Begin, answer) ∷ earlier)) call.Over
nothing_on_bad can args ((call.Rollback, answer) ∷ earlier) = either (went_bad ((call.Rollback, answer) ∷ earlier)) call.Over
nothing_on_bad can args ((call.Over, answer) ∷ earlier) = either (went_bad ((call.Over, answer) ∷ earlier)) call.Over

over_stays : (c : Course) → closed_with c call.Over ≡ call.Over
over_stays (course.Run reads one live) = refl
over_stays _ = refl

never_handle : (due : Due) (handle : ℕ) → but_no_handle due ≡ call.CloseStmt handle → ⊥
never_handle (call.CloseStmt own) handle h = cc
never_handle _ handle h = cc

pub rows_of_any_course : RowsOfAnyCourse
rows_of_any_course = record {
  left = λ c bad can args rows made h. rw h refl;
  fetched = λ c bad can args rows made h. rw h refl;
  keeps_handle = λ reads one live bad can args handle made. never_handle (comes_next course.One can args (no_more_wanted bad) made) handle;
  statement = λ reads one live can args rows made h. ap but_no_handle h;
  bad = λ c can args made. ap (closed_with c) (nothing_on_bad can args made) ∙ over_stays c;
}
