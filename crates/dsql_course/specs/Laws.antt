-- The laws of courses.
use Rattle.std.specs.Prelude.{◌≡◌, ◌≢◌, ℕ, ℤ, true, false, Bool, Option, Some, None, List, ◌∷◌, map, All, AllPairs, Contains}
use Rattle.dsql_driver.specs.declared.caps.Caps.{Caps}
use Rattle.dsql_course.specs.declared.course.Course.{Course}
use Rattle.dsql_course.specs.declared.course.Course.TheVariants as course
use Rattle.dsql_course.specs.declared.call.Due.{Due}
use Rattle.dsql_course.specs.declared.call.Due.TheVariants as call
use Rattle.dsql_course.specs.declared.call.Got.{Got}
use Rattle.dsql_course.specs.declared.call.Got.TheVariants as got
use Rattle.dsql_course.specs.Steps.{step_of}
use Rattle.dsql_course.specs.Made.{Exchange, went_bad, own_handle, own_cursor, reads_one, rows_are_over}
use Rattle.dsql_course.specs.Rows.{closing_next, closing_of, rows_next, rows_next_of}
use Rattle.dsql_course.specs.declared.course.Wish.{Wish}
use Rattle.dsql_course.specs.declared.course.Wish.TheVariants as wish
use Rattle.dsql_course.specs.Line.{Found, Turn, exchange, comes_next, IsLine}

-- Holds if no two calls of a line are the same step.
abbrev pub StepsOnce : Type 0
StepsOnce =
    (c : Course) (can : Caps) (args : ℕ) (turns : List Turn) → IsLine c can args turns
    → AllPairs (λ turn earlier. step_of turn.call ≢ step_of earlier.call) turns

-- Holds if the turns are a line that is over on a good connection.
pub record EndsWell (c : Course) (can : Caps) (args : ℕ) (found : Found) (turns : List Turn) : Type 0 where
  pub line : IsLine c can args turns
  pub answers : went_bad (map exchange turns) ≡ false
  pub connection : found.bad ≡ false
  pub over : comes_next c can args found (map exchange turns) ≡ call.Over

-- Holds if the handle is for this call alone, so that no rows live on over it.
abbrev pub KeepsNoHandle : Course → List Turn → Type 0
KeepsNoHandle course.Exec turns = Unit {0}
KeepsNoHandle course.One turns = Unit {0}
KeepsNoHandle course.Query turns = own_cursor (map exchange turns) ≡ None
KeepsNoHandle c turns = ⊥

-- Holds if the call is in the line.
abbrev pub Calls : List Turn → Due → Type 0
Calls turns due = Contains (map (λ turn. turn.call) turns) due

-- Holds if a line that is over has sent the close of what it opened for itself.
pub record ClosesWhatItOpened : Type 0 where
  pub cursors : (c : Course) (can : Caps) (args : ℕ) (found : Found) (turns : List Turn)
      → EndsWell c can args found turns → reads_one c ≡ true
      → All (λ turn. (rows : ℕ) → turn.answer ≡ got.Cursor rows → Calls turns (call.CloseRows rows)) turns
  pub handles : (c : Course) (can : Caps) (args : ℕ) (found : Found) (turns : List Turn)
      → EndsWell c can args found turns → KeepsNoHandle c turns
      → All (λ turn. (handle : ℕ) (inputs : ℤ) → turn.answer ≡ got.Prepared handle inputs
      → Calls turns (call.CloseStmt handle)) turns

-- Is true if the call is the run of a text or a handle, or a fetch.
abbrev pub uses_rows : Due → Bool
uses_rows call.Text = true
uses_rows (call.Handle handle) = true
uses_rows (call.Next rows) = true
uses_rows _ = false

-- Holds of rows that were handed out if open ones are left alone or fetched from. If rows are over or to be
-- closed, their cursor is closed, then the handle that their query prepared, and then nothing comes.
pub record RowsAreClosed : Type 0 where
  pub left : (can : Caps) (args rows : ℕ) (made : List Exchange) → rows_are_over made ≡ false
      → rows_next wish.Nothing can args made rows ≡ None
  pub fetched : (can : Caps) (args rows : ℕ) (made : List Exchange) → rows_are_over made ≡ false
      → rows_next wish.Fetch can args made rows ≡ Some (call.Next rows)
  pub closed : (can : Caps) (args rows : ℕ) (made : List Exchange) → rows_next wish.Close can args made rows
      ≡ Some (closing_next can args made)
  pub over : (it : Wish) (can : Caps) (args rows : ℕ) (made : List Exchange) → rows_are_over made ≡ true
      → rows_next it can args made rows ≡ Some (closing_next can args made)
  pub cursor : (can : Caps) (args rows : ℕ) (newest : Exchange) (earlier : List Exchange)
      → uses_rows newest.0 ≡ true → went_bad (newest ∷ earlier) ≡ false → own_cursor (newest ∷ earlier) ≡ Some rows
      → closing_next can args (newest ∷ earlier) ≡ call.CloseRows rows
  pub handle : (can : Caps) (args rows handle : ℕ) (inputs : ℤ) (answer : Got) (earlier : List Exchange)
      → went_bad ((call.CloseRows rows, answer) ∷ earlier) ≡ false
      → own_handle ((call.CloseRows rows, answer) ∷ earlier) ≡ Some (handle, inputs)
      → closing_next can args ((call.CloseRows rows, answer) ∷ earlier) ≡ call.CloseStmt handle
  pub no_handle : (can : Caps) (args rows : ℕ) (answer : Got) (earlier : List Exchange)
      → own_handle ((call.CloseRows rows, answer) ∷ earlier) ≡ None
      → closing_next can args ((call.CloseRows rows, answer) ∷ earlier) ≡ call.Over
  pub last : (can : Caps) (args handle : ℕ) (answer : Got) (earlier : List Exchange)
      → closing_next can args ((call.CloseStmt handle, answer) ∷ earlier) ≡ call.Over

-- Holds if two kinds of rows are fetched from as others are. They are a statement's rows, and rows on a connection that
-- is known to be bad. A statement's handle isn't closed with its rows, and on such a connection nothing is closed.
pub record RowsOfAnyCourse : Type 0 where
  pub left : (c : Course) (bad : Bool) (can : Caps) (args rows : ℕ) (made : List Exchange)
      → rows_are_over made ≡ false → rows_next_of c bad wish.Nothing can args made rows ≡ None
  pub fetched : (c : Course) (bad : Bool) (can : Caps) (args rows : ℕ) (made : List Exchange)
      → rows_are_over made ≡ false → rows_next_of c bad wish.Fetch can args made rows ≡ Some (call.Next rows)
  pub keeps_handle : (reads one : Bool) (live : Option (ℕ
      × ℤ)) (bad : Bool) (can : Caps) (args handle : ℕ) (made : List Exchange)
      → closing_of (course.Run reads one live) bad can args made ≢ call.CloseStmt handle
  pub statement : (reads one : Bool) (live : Option (ℕ × ℤ)) (can : Caps) (args rows : ℕ) (made : List Exchange)
      → closing_next can args made ≡ call.CloseRows rows
      → closing_of (course.Run reads one live) false can args made ≡ call.CloseRows rows
  pub bad : (c : Course) (can : Caps) (args : ℕ) (made : List Exchange) → closing_of c true can args made ≡ call.Over
