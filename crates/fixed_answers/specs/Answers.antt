-- The answer to each driver call, and the session after it.
use Rattle.std.specs.Prelude.{ℕ, nat_lt, List, length, codes, if◌then◌else◌}
use Rattle.dsql_driver.specs.Fits.{is_fault}
use Rattle.dsql_driver.specs.Streams.{one_more}
use Rattle.dsql_driver.specs.declared.answer.DriverAnswer.{DriverAnswer}
use Rattle.dsql_driver.specs.declared.answer.DriverAnswer.TheVariants.{Done, Fail}
use Rattle.dsql_driver.specs.declared.call.DriverCall.{DriverCall}
use Rattle.dsql_driver.specs.declared.call.DriverCall.TheVariants.{Connect, Reset, Valid, Ping, Query, Next, CloseRows, Shut}
use Rattle.dsql_driver.specs.declared.call.Input.TheVariants.{Text}
use Rattle.dsql_value.specs.declared.value.Param.{Param}
use Rattle.dsql_driver_session.specs.Calls.{Kept, opened, next_taken, rows_closed}
use Rattle.dsql_driver_session.specs.Session.{SessionState}
use Rattle.fixed_answers.specs.Table.{table}

abbrev pub only_queries : DriverAnswer
only_queries = Fail (codes "fixed: only queries are answered")

abbrev pub no_parameters : DriverAnswer
no_parameters = Fail (codes "fixed: a query takes no parameters")

abbrev pub no_such_cursor : DriverAnswer
no_such_cursor = Fail (codes "fixed: no such cursor")

abbrev pub numbers_spent : DriverAnswer
numbers_spent = Fail (codes "fixed: the numbers of cursors are spent")

-- Returns what a query with these parameters does. It takes none, and opens a cursor over the table.
abbrev pub queried : SessionState → List Param → Kept
queried session params =
    if nat_lt 0 (length params) then (session, no_parameters) else opened session table numbers_spent

-- Returns the session after a driver call, with the answer.
abbrev pub effect : SessionState → DriverCall → Kept
effect session Connect = (session, Done)
effect session Reset = (session, Done)
effect session Valid = (session, Done)
effect session Ping = (session, Done)
effect session Shut = (session, Done)
effect session (Query (Text text) params) = queried session params
effect session (Next rows) = next_taken session rows no_such_cursor
effect session (CloseRows rows) = rows_closed session rows no_such_cursor
effect session _ = (session, only_queries)

-- Returns a count of faults after an answer.
abbrev pub faults_after : ℕ → DriverAnswer → ℕ
faults_after faults answer = if is_fault answer then one_more faults else faults
