-- How each driver call is served: which answers it may have, and what it leaves of the wire's session.
use Rattle.std.specs.Prelude.{◌≡◌, ◌⊎◌, ℕ, Bool, true, false, ◌||◌, List, codes}
use Rattle.dsql_driver.specs.Fits.{is_done, is_result}
use Rattle.dsql_driver.specs.declared.answer.DriverAnswer.{DriverAnswer}
use Rattle.dsql_driver.specs.declared.answer.DriverAnswer.TheVariants.{Done, Bad, Fail}
use Rattle.dsql_driver.specs.declared.call.DriverCall.{DriverCall}
use Rattle.dsql_driver.specs.declared.call.DriverCall.TheVariants.{Connect, Reset, Valid, Ping, Prepare, CloseStmt, Exec, Query, Next, CloseRows, Shut}
use Rattle.dsql_driver.specs.declared.wire.Answered.{Answered}
use Rattle.dsql_driver_session.specs.Calls.{Keeps, handle_given, closed, opened, next_taken, rows_closed}
use Rattle.dsql_driver_session.specs.Rows.{ResultSetState}
use Rattle.dsql_driver_session.specs.Session.{SessionState}

abbrev pub no_such_handle : DriverAnswer
no_such_handle = Fail (codes "sqlite: no such handle")

abbrev pub no_such_cursor : DriverAnswer
no_such_cursor = Fail (codes "sqlite: no such cursor")

abbrev pub numbers_spent : DriverAnswer
numbers_spent = Fail (codes "sqlite: numbers spent")

abbrev pub is_fail : DriverAnswer → Bool
is_fail (Fail text) = true
is_fail _ = false

abbrev pub is_done_or_bad : DriverAnswer → Bool
is_done_or_bad Done = true
is_done_or_bad Bad = true
is_done_or_bad _ = false

-- Is true if the answer is one to a statement that was executed, or a failure with its text.
abbrev pub is_executed : DriverAnswer → Bool
is_executed answer = is_fail answer || is_result answer

-- Is true if the answer is Done, or a failure with its text.
abbrev pub is_done_or_fail : DriverAnswer → Bool
is_done_or_fail answer = is_fail answer || is_done answer

-- Holds if both copies of the answer are equal and pass the test.
pub record IsTwice (test : DriverAnswer → Bool) (answered : Answered) : Type 0 where
  pub copied : answered.copy ≡ answered.answer
  pub passes : test answered.answer ≡ true

-- Holds if the answer passes the test in both copies, and the session stays as it was.
pub record Stays (test : DriverAnswer → Bool) (answered : Answered) (before after : SessionState) : Type 0 where
  pub twice : IsTwice test answered
  pub stays : after ≡ before

-- Holds if a Prepare failed, or gave the text the next handle.
abbrev pub ServesPrepare : List ℕ → Answered → SessionState → SessionState → Type 0
ServesPrepare text answered before after =
    Stays is_fail answered before after
    ⊎ ((inputs : ℕ) × Keeps (handle_given before text inputs numbers_spent) answered after)

-- Holds if a Query failed, or opened a cursor on the rows that it found.
abbrev pub ServesQuery : Answered → SessionState → SessionState → Type 0
ServesQuery answered before after =
    Stays is_fail answered before after
    ⊎ ((set : ResultSetState) × Keeps (opened before set numbers_spent) answered after)

-- Holds if the call had this answer, in both copies, and left this session. What the database does isn't said.
abbrev pub Serves : DriverCall → Answered → SessionState → SessionState → Type 0
Serves Connect answered before after = Stays is_done answered before after
Serves Reset answered before after = Stays is_done_or_bad answered before after
Serves Shut answered before after = Stays is_done_or_bad answered before after
Serves Valid answered before after = Stays is_done answered before after
Serves Ping answered before after = Stays is_done answered before after
Serves (Prepare text) answered before after = ServesPrepare text answered before after
Serves (CloseStmt handle) answered before after = Keeps (closed before handle no_such_handle) answered after
Serves (Exec input params) answered before after = Stays is_executed answered before after
Serves (Query input params) answered before after = ServesQuery answered before after
Serves (Next rows) answered before after = Keeps (next_taken before rows no_such_cursor) answered after
Serves (CloseRows rows) answered before after = Keeps (rows_closed before rows no_such_cursor) answered after
Serves call answered before after = Stays is_done_or_fail answered before after
