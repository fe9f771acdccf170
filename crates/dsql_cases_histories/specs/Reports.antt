-- Whole reports of the pool. Each is oldest first.
use Rattle.std.specs.Prelude.{List, [], ◌∷◌, pos, codes}
use Rattle.dsql_history.specs.value.declared.value.Value.TheVariants as values
use Rattle.dsql_history.specs.scan.declared.cell.Cell.TheVariants as cells
use Rattle.dsql_history.specs.scan.declared.dest.Dest.TheVariants as dests
use Rattle.dsql_history.specs.driver.declared.call.DriverCall.TheVariants.{Connect, Next, CloseRows, Shut, Valid, Reset}
use Rattle.dsql_history.specs.driver.declared.answer.DriverAnswer.TheVariants as answers
use Rattle.dsql_history.specs.pool.declared.moves.CloseCause.TheVariants as causes
use Rattle.dsql_history.specs.declared.event.Event.{Event}
use Rattle.dsql_history.specs.declared.event.Event.TheVariants.{Waits, Replied, Ended}
use Rattle.dsql_history.specs.declared.reply.Reply.TheVariants as replies
use Rattle.dsql_cases_histories.specs.CallWords.{run, exec, query_of, one_changed, told_one_changed, enters_exec, queries_for, reads_into, closes, asks_for_stats, sets_open, sets_idle, open_start, lend, back, close, gone, house, sent, stats}

-- A report without any call.
abbrev pub nothing_asked : List Event
nothing_asked =
    run
    ∷ Ended
    ∷ []

-- A report of one exec on a new connection.
abbrev pub one_exec : List Event
one_exec =
    run
    ∷ enters_exec 1 1 (codes "SET a 1")
    ∷ open_start 1 1
    ∷ house 1 1 Connect answers.Done
    ∷ lend 1 2 1
    ∷ sent 1 2 1 1 (exec (codes "SET a 1")) one_changed
    ∷ sent 1 2 1 1 Valid answers.Done
    ∷ back 1
    ∷ Replied 1 told_one_changed
    ∷ Ended
    ∷ close 1 causes.DbClosed
    ∷ house 1 3 Shut answers.Done
    ∷ gone 1
    ∷ []

-- A report of two execs, one after the other, on one connection.
abbrev pub two_execs : List Event
two_execs =
    run
    ∷ enters_exec 1 1 (codes "SET a 1")
    ∷ open_start 1 1
    ∷ house 1 1 Connect answers.Done
    ∷ lend 1 2 1
    ∷ sent 1 2 1 1 (exec (codes "SET a 1")) one_changed
    ∷ sent 1 2 1 1 Valid answers.Done
    ∷ back 1
    ∷ Replied 1 told_one_changed
    ∷ enters_exec 1 2 (codes "SET a 2")
    ∷ lend 1 3 2
    ∷ sent 1 3 2 2 Reset answers.Done
    ∷ sent 1 3 2 2 (exec (codes "SET a 2")) one_changed
    ∷ sent 1 3 2 2 Valid answers.Done
    ∷ back 1
    ∷ Replied 2 told_one_changed
    ∷ Ended
    ∷ close 1 causes.DbClosed
    ∷ house 1 4 Shut answers.Done
    ∷ gone 1
    ∷ []

-- A report in which the idle limit is set to 0 and the idle connection closes.
abbrev pub idle_limit_zero : List Event
idle_limit_zero =
    run
    ∷ enters_exec 1 1 (codes "SET a 1")
    ∷ open_start 1 1
    ∷ house 1 1 Connect answers.Done
    ∷ lend 1 2 1
    ∷ sent 1 2 1 1 (exec (codes "SET a 1")) one_changed
    ∷ sent 1 2 1 1 Valid answers.Done
    ∷ back 1
    ∷ Replied 1 told_one_changed
    ∷ sets_idle 0
    ∷ close 1 causes.IdleFull
    ∷ house 1 3 Shut answers.Done
    ∷ gone 1
    ∷ Ended
    ∷ []

-- A report in which rows hold the one connection that may be open, and an exec waits for it.
abbrev pub rows_hold_the_connection : List Event
rows_hold_the_connection =
    run
    ∷ sets_open 1
    ∷ queries_for 1 1 (codes "r1") (codes "GET a")
    ∷ open_start 1 1
    ∷ house 1 1 Connect answers.Done
    ∷ lend 1 2 1
    ∷ sent 1 2 1 1 (query_of (codes "GET a")) (answers.Cursor 1 ((codes "value") ∷ []))
    ∷ Replied 1 (replies.Rows ((codes "value") ∷ []))
    ∷ enters_exec 2 2 (codes "SET a 1")
    ∷ Waits 2
    ∷ closes 1 3 (codes "r1")
    ∷ sent 1 2 1 3 (CloseRows 1) answers.Done
    ∷ sent 1 2 1 3 Valid answers.Done
    ∷ back 1
    ∷ lend 1 3 2
    ∷ Replied 3 replies.Ok
    ∷ sent 1 3 2 2 Reset answers.Done
    ∷ sent 1 3 2 2 (exec (codes "SET a 1")) one_changed
    ∷ sent 1 3 2 2 Valid answers.Done
    ∷ back 1
    ∷ Replied 2 told_one_changed
    ∷ asks_for_stats 2 4
    ∷ Replied 4 (stats 1 1 0 1 1 0)
    ∷ Ended
    ∷ close 1 causes.DbClosed
    ∷ house 1 4 Shut answers.Done
    ∷ gone 1
    ∷ []

-- A report of four clients and two connections that may be open.
abbrev pub four_clients : List Event
four_clients =
    run
    ∷ sets_open 2
    ∷ enters_exec 1 1 (codes "SET k1 1")
    ∷ open_start 1 1
    ∷ house 1 1 Connect answers.Done
    ∷ lend 1 2 1
    ∷ sent 1 2 1 1 (exec (codes "SET k1 1")) one_changed
    ∷ sent 1 2 1 1 Valid answers.Done
    ∷ back 1
    ∷ Replied 1 told_one_changed
    ∷ reads_into 1 2 (dests.I64 ∷ []) (codes "GET k1")
    ∷ lend 1 3 2
    ∷ sent 1 3 2 2 Reset answers.Done
    ∷ sent 1 3 2 2 (query_of (codes "GET k1")) (answers.Cursor 1 ((codes "value") ∷ []))
    ∷ sent 1 3 2 2 (Next 1) (answers.Row ((values.Int (pos 1)) ∷ []))
    ∷ sent 1 3 2 2 (CloseRows 1) answers.Done
    ∷ sent 1 3 2 2 Valid answers.Done
    ∷ back 1
    ∷ Replied 2 (replies.Cells ((cells.Int (pos 1)) ∷ []))
    ∷ enters_exec 2 3 (codes "SET k2 2")
    ∷ lend 1 4 3
    ∷ sent 1 4 3 3 Reset answers.Done
    ∷ sent 1 4 3 3 (exec (codes "SET k2 2")) one_changed
    ∷ sent 1 4 3 3 Valid answers.Done
    ∷ back 1
    ∷ Replied 3 told_one_changed
    ∷ reads_into 2 4 (dests.I64 ∷ []) (codes "GET k2")
    ∷ lend 1 5 4
    ∷ sent 1 5 4 4 Reset answers.Done
    ∷ sent 1 5 4 4 (query_of (codes "GET k2")) (answers.Cursor 2 ((codes "value") ∷ []))
    ∷ sent 1 5 4 4 (Next 2) (answers.Row ((values.Int (pos 2)) ∷ []))
    ∷ sent 1 5 4 4 (CloseRows 2) answers.Done
    ∷ sent 1 5 4 4 Valid answers.Done
    ∷ back 1
    ∷ Replied 4 (replies.Cells ((cells.Int (pos 2)) ∷ []))
    ∷ enters_exec 3 5 (codes "SET k3 3")
    ∷ lend 1 6 5
    ∷ sent 1 6 5 5 Reset answers.Done
    ∷ sent 1 6 5 5 (exec (codes "SET k3 3")) one_changed
    ∷ sent 1 6 5 5 Valid answers.Done
    ∷ back 1
    ∷ Replied 5 told_one_changed
    ∷ reads_into 3 6 (dests.I64 ∷ []) (codes "GET k3")
    ∷ lend 1 7 6
    ∷ sent 1 7 6 6 Reset answers.Done
    ∷ sent 1 7 6 6 (query_of (codes "GET k3")) (answers.Cursor 3 ((codes "value") ∷ []))
    ∷ sent 1 7 6 6 (Next 3) (answers.Row ((values.Int (pos 3)) ∷ []))
    ∷ sent 1 7 6 6 (CloseRows 3) answers.Done
    ∷ sent 1 7 6 6 Valid answers.Done
    ∷ back 1
    ∷ Replied 6 (replies.Cells ((cells.Int (pos 3)) ∷ []))
    ∷ enters_exec 4 7 (codes "SET k4 4")
    ∷ lend 1 8 7
    ∷ sent 1 8 7 7 Reset answers.Done
    ∷ sent 1 8 7 7 (exec (codes "SET k4 4")) one_changed
    ∷ sent 1 8 7 7 Valid answers.Done
    ∷ back 1
    ∷ Replied 7 told_one_changed
    ∷ reads_into 4 8 (dests.I64 ∷ []) (codes "GET k4")
    ∷ lend 1 9 8
    ∷ sent 1 9 8 8 Reset answers.Done
    ∷ sent 1 9 8 8 (query_of (codes "GET k4")) (answers.Cursor 4 ((codes "value") ∷ []))
    ∷ sent 1 9 8 8 (Next 4) (answers.Row ((values.Int (pos 4)) ∷ []))
    ∷ sent 1 9 8 8 (CloseRows 4) answers.Done
    ∷ sent 1 9 8 8 Valid answers.Done
    ∷ back 1
    ∷ Replied 8 (replies.Cells ((cells.Int (pos 4)) ∷ []))
    ∷ Ended
    ∷ close 1 causes.DbClosed
    ∷ house 1 10 Shut answers.Done
    ∷ gone 1
    ∷ []

-- A report in which the open limit is lowered under three open results.
abbrev pub limit_lowered_under_rows : List Event
limit_lowered_under_rows =
    run
    ∷ sets_open 3
    ∷ queries_for 1 1 (codes "q1") (codes "LIST a")
    ∷ open_start 1 1
    ∷ house 1 1 Connect answers.Done
    ∷ lend 1 2 1
    ∷ sent 1 2 1 1 (query_of (codes "LIST a")) (answers.Cursor 1 ((codes "key") ∷ (codes "value") ∷ []))
    ∷ Replied 1 (replies.Rows ((codes "key") ∷ (codes "value") ∷ []))
    ∷ queries_for 1 2 (codes "q2") (codes "LIST a")
    ∷ open_start 2 2
    ∷ house 2 1 Connect answers.Done
    ∷ lend 2 2 2
    ∷ sent 2 2 2 2 (query_of (codes "LIST a")) (answers.Cursor 1 ((codes "key") ∷ (codes "value") ∷ []))
    ∷ Replied 2 (replies.Rows ((codes "key") ∷ (codes "value") ∷ []))
    ∷ queries_for 1 3 (codes "q3") (codes "LIST a")
    ∷ open_start 3 3
    ∷ house 3 1 Connect answers.Done
    ∷ lend 3 2 3
    ∷ sent 3 2 3 3 (query_of (codes "LIST a")) (answers.Cursor 1 ((codes "key") ∷ (codes "value") ∷ []))
    ∷ Replied 3 (replies.Rows ((codes "key") ∷ (codes "value") ∷ []))
    ∷ sets_open 1
    ∷ closes 1 4 (codes "q1")
    ∷ sent 1 2 1 4 (CloseRows 1) answers.Done
    ∷ sent 1 2 1 4 Valid answers.Done
    ∷ close 1 causes.OverLimit
    ∷ Replied 4 replies.Ok
    ∷ house 1 3 Shut answers.Done
    ∷ gone 1
    ∷ closes 1 5 (codes "q2")
    ∷ sent 2 2 2 5 (CloseRows 1) answers.Done
    ∷ sent 2 2 2 5 Valid answers.Done
    ∷ close 2 causes.OverLimit
    ∷ Replied 5 replies.Ok
    ∷ house 2 3 Shut answers.Done
    ∷ gone 2
    ∷ closes 1 6 (codes "q3")
    ∷ sent 3 2 3 6 (CloseRows 1) answers.Done
    ∷ sent 3 2 3 6 Valid answers.Done
    ∷ back 3
    ∷ Replied 6 replies.Ok
    ∷ asks_for_stats 1 7
    ∷ Replied 7 (stats 1 1 0 1 0 0)
    ∷ Ended
    ∷ close 3 causes.DbClosed
    ∷ house 3 3 Shut answers.Done
    ∷ gone 3
    ∷ []
