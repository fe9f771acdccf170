-- Defines the line of a call: its entries in a tenure, newest first. If the tenure is lent to a call on the
-- database, all entries are in that call's line. If it is lent to a transaction, each call has a line of its
-- own. A query's line includes its rows, no matter which call fetches or closes them.
use Rattle.std.specs.Prelude.{ℕ, ℤ, ◌==◌, Bool, false, not, ◌&&◌, ◌||◌, cond, List, [], ◌∷◌, Option, Some, None}
use Rattle.std.specs.List.{list_any}
use Rattle.dsql_history_work.specs.driver.declared.call.DriverCall.{DriverCall}
use Rattle.dsql_history_work.specs.driver.declared.call.DriverCall.TheVariants.{Next, CloseRows, CloseStmt}
use Rattle.dsql_history_work.specs.course.declared.call.Due.{Due}
use Rattle.dsql_history_work.specs.course.declared.call.Due.TheVariants as due
use Rattle.dsql_history_work.specs.course.Made.{Exchange, own_cursor, own_handle}
use Rattle.dsql_history_work.specs.journal.declared.entry.Entry.{Entry}
use Rattle.dsql_history_work.specs.journal.declared.entry.Owner.{Owner}
use Rattle.dsql_history_work.specs.journal.Kinds.{is_number, is_call}
use Rattle.dsql_history_work.specs.Exchanges.{exchanges}

abbrev pub closes_cursor : ℕ → Due → Bool
closes_cursor rows (due.CloseRows other) = other == rows
closes_cursor rows _ = false

abbrev pub closes_handle : ℕ → Due → Bool
closes_handle handle (due.CloseStmt other) = other == handle
closes_handle handle _ = false

-- Is true if these exchanges opened the cursor and none of them closed it.
abbrev pub has_cursor : List Exchange → ℕ → Bool
has_cursor made rows = is_number (own_cursor made) rows && not (list_any (λ x. closes_cursor rows x.0) made)

abbrev pub is_of : Option (ℕ × ℤ) → ℕ → Bool
is_of None handle = false
is_of (Some own) handle = own.0 == handle

-- Is true if these exchanges prepared the handle and none of them closed it.
abbrev pub has_handle : List Exchange → ℕ → Bool
has_handle made handle = is_of (own_handle made) handle && not (list_any (λ x. closes_handle handle x.0) made)

-- Is true if the driver call concerns the cursor or the handle of these exchanges.
abbrev pub is_about : List Exchange → DriverCall → Bool
is_about made (Next rows) = has_cursor made rows
is_about made (CloseRows rows) = has_cursor made rows
is_about made (CloseStmt handle) = has_handle made handle
is_about made _ = false

-- Is true if an entry that follows these entries of call n's line belongs to that line too.
abbrev pub is_of_line : ℕ → Entry → List Entry → Bool
is_of_line n e earlier = (e.call_no == n) || is_about (exchanges earlier) e.call

abbrev pub line_among : ℕ → List Entry → List Entry
line_among n [] = []
line_among n (e ∷ earlier) =
    cond (is_of_line n e (line_among n earlier)) (e ∷ line_among n earlier) (line_among n earlier)

-- Returns the line of call n among the entries of a tenure of this owner.
abbrev pub line_in : Owner → ℕ → List Entry → List Entry
line_in owner n heard = cond (is_call owner) heard (line_among n heard)

-- Is true if call n sent one of these entries.
abbrev pub has_sent : ℕ → List Entry → Bool
has_sent n heard = list_any (λ e. e.call_no == n) heard
