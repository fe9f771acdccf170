-- What the laws say of a call's line: its order, and that it opens rows once and prepares once.
use Rattle.std.specs.Prelude.{ℕ, ◌≡◌, Bool, true, false, not, ◌&&◌, ◌||◌, List, [], ◌∷◌, is_some, nat_lt}
use Rattle.std.specs.List.{list_any, list_all}
use Rattle.dsql_history.specs.course.declared.call.Due.{Due}
use Rattle.dsql_history.specs.course.declared.call.Due.TheVariants as due
use Rattle.dsql_history.specs.course.Made.{Exchange, given_cursor, given_handle}
use Rattle.dsql_history.specs.journal.declared.entry.Entry.{Entry}
use Rattle.dsql_history.specs.journal.Kinds.{◌⇒◌}
use Rattle.dsql_history.specs.works.declared.work.Aim.{Aim}
use Rattle.dsql_history.specs.works.declared.work.Aim.TheVariants as aims
use Rattle.dsql_laws_tenures.specs.Tenures.{made_by}

abbrev pub gives_cursor : Exchange → Bool
gives_cursor x = is_some (given_cursor x.1)

abbrev pub closes_rows : Due → Bool
closes_rows (due.CloseRows rows) = true
closes_rows _ = false

-- Is true if the driver gave a cursor at most once, and no rows were closed before that.
abbrev pub opens_once : List Exchange → Bool
opens_once [] = true
opens_once (x ∷ earlier) =
    opens_once earlier && (gives_cursor x ⇒ not (list_any (λ y. gives_cursor y || closes_rows y.0) earlier))

abbrev pub gives_handle : Exchange → Bool
gives_handle x = is_some (given_handle x.1)

abbrev pub closes_stmt : Due → Bool
closes_stmt (due.CloseStmt handle) = true
closes_stmt _ = false

-- Is true if the driver gave a handle at most once, and no handle was closed before that.
abbrev pub prepares_once : List Exchange → Bool
prepares_once [] = true
prepares_once (x ∷ earlier) =
    prepares_once earlier && (gives_handle x ⇒ not (list_any (λ y. gives_handle y || closes_stmt y.0) earlier))

-- Holds if this is so in the line of each call in tenure t: `OpensOnce` for its cursor, `PreparesOnce` for its
-- handle.
pub record OpensOnce (t : ℕ) (J : List Entry) : Type 0 where
  pub line : (n : ℕ) → opens_once (made_by n t J) ≡ true

pub record PreparesOnce (t : ℕ) (J : List Entry) : Type 0 where
  pub line : (n : ℕ) → prepares_once (made_by n t J) ≡ true

-- Returns the place of a driver call in the order of a line.
abbrev pub place : Due → ℕ
place due.Text = 1
place due.Prepare = 2
place (due.Handle handle) = 3
place (due.Next rows) = 4
place (due.CloseRows rows) = 5
place (due.CloseStmt handle) = 6
place _ = 0

abbrev pub is_fetch : Due → Bool
is_fetch (due.Next rows) = true
is_fetch _ = false

-- Is true if the driver calls come in the order of their places. That is the text, its Prepare, the run of the handle,
-- the Nexts, the close of the cursor, and the close of the handle. Only Next may come more than once.
abbrev pub is_in_order : List Exchange → Bool
is_in_order [] = true
is_in_order (x ∷ earlier) =
    is_in_order earlier && list_all (λ y. nat_lt (place y.0) (place x.0) || is_fetch x.0 && is_fetch y.0) earlier

-- Is true if the call has a text, which only a ping lacks.
abbrev pub asks_text : Aim → Bool
asks_text aims.Ping = false
asks_text _ = true
