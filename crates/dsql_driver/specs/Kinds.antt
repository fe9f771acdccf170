-- The kinds of driver calls and answers, as tests, the handles and cursors that a call names, and those that an
-- answer gives.
use Rattle.std.specs.Prelude.{ℕ, Bool, true, false, ◌||◌, Option, Some, None}
use Rattle.dsql_driver.specs.declared.call.DriverCall.{DriverCall}
use Rattle.dsql_driver.specs.declared.call.DriverCall.TheVariants.{Connect, Reset, Valid, Ping, Prepare, CloseStmt, Exec, Query, Next, CloseRows, Begin, Commit, Rollback, Shut}
use Rattle.dsql_driver.specs.declared.answer.DriverAnswer.{DriverAnswer}
use Rattle.dsql_driver.specs.declared.answer.DriverAnswer.TheVariants.{Prepared, Cursor, End, Bad}
use Rattle.dsql_driver.specs.declared.call.Input.TheVariants.{Text, Handle}
use Rattle.dsql_driver.specs.Fits.{is_failure}

abbrev pub is_connect : DriverCall → Bool
is_connect Connect = true
is_connect _ = false

abbrev pub is_reset : DriverCall → Bool
is_reset Reset = true
is_reset _ = false

abbrev pub is_valid : DriverCall → Bool
is_valid Valid = true
is_valid _ = false

abbrev pub is_ping : DriverCall → Bool
is_ping Ping = true
is_ping _ = false

abbrev pub is_prepare : DriverCall → Bool
is_prepare (Prepare text) = true
is_prepare _ = false

-- Is true if the call is an Exec or Query of a text.
abbrev pub runs_text : DriverCall → Bool
runs_text (Exec (Text text) params) = true
runs_text (Query (Text text) params) = true
runs_text _ = false

-- Is true if the call is an Exec or Query of a handle.
abbrev pub runs_handle : DriverCall → Bool
runs_handle (Exec (Handle handle) params) = true
runs_handle (Query (Handle handle) params) = true
runs_handle _ = false

abbrev pub is_next : DriverCall → Bool
is_next (Next rows) = true
is_next _ = false

abbrev pub is_close_rows : DriverCall → Bool
is_close_rows (CloseRows rows) = true
is_close_rows _ = false

abbrev pub is_close_stmt : DriverCall → Bool
is_close_stmt (CloseStmt handle) = true
is_close_stmt _ = false

abbrev pub is_begin : DriverCall → Bool
is_begin (Begin level read_only) = true
is_begin _ = false

-- Is true if the call is a Commit or a Rollback.
abbrev pub is_ending : DriverCall → Bool
is_ending Commit = true
is_ending Rollback = true
is_ending _ = false

abbrev pub is_shut : DriverCall → Bool
is_shut Shut = true
is_shut _ = false

-- Is true if the call works with a statement or its rows: Prepare, Exec, Query, Next, CloseRows and CloseStmt.
abbrev pub is_work : DriverCall → Bool
is_work (Prepare text) = true
is_work (Exec input params) = true
is_work (Query input params) = true
is_work (CloseStmt handle) = true
is_work call = is_next call || is_close_rows call

-- Returns the handle that an Exec, Query or CloseStmt names.
abbrev pub handle_of : DriverCall → Option ℕ
handle_of (Exec (Handle handle) params) = Some handle
handle_of (Query (Handle handle) params) = Some handle
handle_of (CloseStmt handle) = Some handle
handle_of _ = None

-- Returns the cursor that a Next or CloseRows names.
abbrev pub cursor_of : DriverCall → Option ℕ
cursor_of (Next rows) = Some rows
cursor_of (CloseRows rows) = Some rows
cursor_of _ = None

abbrev pub is_bad : DriverAnswer → Bool
is_bad Bad = true
is_bad _ = false

-- Is true if a cursor gives no row after this answer: End, Fail or Bad.
abbrev pub ends_cursor : DriverAnswer → Bool
ends_cursor End = true
ends_cursor answer = is_failure answer

-- Returns the handle that an answer gives.
abbrev pub given_handle : DriverAnswer → Option ℕ
given_handle (Prepared handle inputs) = Some handle
given_handle _ = None

-- Returns the cursor that an answer gives.
abbrev pub given_cursor : DriverAnswer → Option ℕ
given_cursor (Cursor rows columns) = Some rows
given_cursor _ = None
