-- Runs of calls that wait, of limits, and of the close of the database. Their parts follow their lines. Parts
-- and events are oldest first.
use Rattle.std.specs.Prelude.{false, [], ◌∷◌}
use Rattle.dsql_history.specs.pool.declared.moves.CloseCause.TheVariants as causes
use Rattle.dsql_history.specs.declared.event.Event.TheVariants.{Waits, Replied, Ended}
use Rattle.dsql_history.specs.declared.reply.DbEnd.TheVariants as ends
use Rattle.dsql_history.specs.declared.reply.Reply.TheVariants as replies
use Rattle.dsql_cases_histories.specs.CallWords.{query, columns, cursor, fetches, closes, asks_for_stats, closes_db, open_start, lend, back, close, gone, enters_exec, queries, stats, sets_open, sent}
use Rattle.dsql_follows.specs.declared.line.Line.TheVariants.{Skip, Step, StepHouse}
use Rattle.dsql_follows.specs.Follows.{Played}
use Rattle.dsql_cases_runs.specs.CallWords.{set_a, set_b, set_c, set_d, r, limits, calls_exec, calls_query, calls_next, calls_close, calls_stats, calls_db_close, starts_exec, connects, shuts, resets, runs, tests, closes_rows, tests_after, is_told, part, played}

-- An exec runs on a new connection.
abbrev pub one_exec : Played
one_exec =
    played
    (part (calls_exec 1 set_a) (enters_exec 1 1 set_a
    ∷ open_start 1 1
    ∷ connects 1
    ∷ lend 1 2 1
    ∷ runs 1 2 1 set_a
    ∷ tests 1 2 1
    ∷ back 1
    ∷ is_told 1
    ∷ [])
    ∷ [])
    (Ended
    ∷ close 1 causes.DbClosed
    ∷ shuts 1 3
    ∷ gone 1
    ∷ [])

-- Rows hold the one connection that may be open, and another client waits.
abbrev pub rows_hold_the_connection : Played
rows_hold_the_connection =
    played
    (part (limits 1) (sets_open 1 ∷ [])
    ∷ part (calls_query 1 r) (queries 1 1 r
    ∷ open_start 1 1
    ∷ connects 1
    ∷ lend 1 2 1
    ∷ sent 1 2 1 1 query cursor
    ∷ Replied 1 (replies.Rows columns)
    ∷ [])
    ∷ part (calls_exec 2 set_a) (enters_exec 2 2 set_a
    ∷ Waits 2
    ∷ [])
    ∷ part (calls_close 1 r) (closes 1 3 r
    ∷ closes_rows 1 2 1 3
    ∷ tests_after 1 2 1 3
    ∷ back 1
    ∷ lend 1 3 2
    ∷ Replied 3 replies.Ok
    ∷ resets 1 3 2
    ∷ runs 1 3 2 set_a
    ∷ tests 1 3 2
    ∷ back 1
    ∷ is_told 2
    ∷ [])
    ∷ part (calls_stats 2) (asks_for_stats 2 4
    ∷ Replied 4 (stats 1 1 0 1 1 0)
    ∷ [])
    ∷ [])
    (Ended
    ∷ close 1 causes.DbClosed
    ∷ shuts 1 4
    ∷ gone 1
    ∷ [])

-- Three clients share one connection. The calls that wait are served in order, and a line of one of the clients
-- is kept.
abbrev pub served_in_order : Played
served_in_order =
    played
    (part (limits 1) (sets_open 1 ∷ [])
    ∷ part (starts_exec 1 set_a) (enters_exec 1 1 set_a
    ∷ open_start 1 1
    ∷ [])
    ∷ part (calls_exec 2 set_b) (enters_exec 2 2 set_b
    ∷ Waits 2
    ∷ connects 1
    ∷ lend 1 2 1
    ∷ [])
    ∷ part (calls_exec 3 set_c) (enters_exec 3 3 set_c
    ∷ Waits 3
    ∷ [])
    ∷ part (calls_exec 2 set_d) []
    ∷ part (Step 1) []
    ∷ part (Step 1) (runs 1 2 1 set_a ∷ [])
    ∷ part (Step 1) (tests 1 2 1
    ∷ back 1
    ∷ lend 1 3 2
    ∷ is_told 1
    ∷ [])
    ∷ part Skip (resets 1 3 2
    ∷ runs 1 3 2 set_b
    ∷ tests 1 3 2
    ∷ back 1
    ∷ lend 1 4 3
    ∷ is_told 2
    ∷ enters_exec 2 4 set_d
    ∷ Waits 4
    ∷ resets 1 4 3
    ∷ runs 1 4 3 set_c
    ∷ tests 1 4 3
    ∷ back 1
    ∷ lend 1 5 4
    ∷ is_told 3
    ∷ resets 1 5 4
    ∷ runs 1 5 4 set_d
    ∷ tests 1 5 4
    ∷ back 1
    ∷ is_told 4
    ∷ [])
    ∷ [])
    (Ended
    ∷ close 1 causes.DbClosed
    ∷ shuts 1 6
    ∷ gone 1
    ∷ [])

-- The database is closed while three calls wait. A held one goes on by a step, and another at the end.
abbrev pub closed_while_waiting : Played
closed_while_waiting =
    played
    (part (limits 1) (sets_open 1 ∷ [])
    ∷ part (calls_query 1 r) (queries 1 1 r
    ∷ open_start 1 1
    ∷ connects 1
    ∷ lend 1 2 1
    ∷ sent 1 2 1 1 query cursor
    ∷ Replied 1 (replies.Rows columns)
    ∷ [])
    ∷ part (starts_exec 2 set_b) (enters_exec 2 2 set_b
    ∷ Waits 2
    ∷ [])
    ∷ part (calls_exec 3 set_c) (enters_exec 3 3 set_c
    ∷ Waits 3
    ∷ [])
    ∷ part (starts_exec 4 set_d) (enters_exec 4 4 set_d
    ∷ Waits 4
    ∷ [])
    ∷ part (calls_db_close 5) (closes_db 5 5
    ∷ Replied 5 replies.Ok
    ∷ Replied 3 (replies.DbClosed ends.Close)
    ∷ [])
    ∷ part (Step 2) (Replied 2 (replies.DbClosed ends.Close) ∷ [])
    ∷ part (Step 1) []
    ∷ part (calls_stats 2) (asks_for_stats 2 6
    ∷ Replied 6 (stats 1 1 1 0 3 0)
    ∷ [])
    ∷ [])
    (Replied 4 (replies.DbClosed ends.Close)
    ∷ Ended
    ∷ closes_rows 1 2 1 0
    ∷ tests_after 1 2 1 0
    ∷ close 1 causes.DbClosed
    ∷ shuts 1 3
    ∷ gone 1
    ∷ [])

-- The limit is lowered below the number of open connections.
abbrev pub limit_lowered : Played
limit_lowered =
    played
    (part (calls_query 1 r) (queries 1 1 r
    ∷ open_start 1 1
    ∷ connects 1
    ∷ lend 1 2 1
    ∷ sent 1 2 1 1 query cursor
    ∷ Replied 1 (replies.Rows columns)
    ∷ [])
    ∷ part (starts_exec 3 set_c) (enters_exec 3 2 set_c
    ∷ open_start 2 2
    ∷ [])
    ∷ part (limits 1) (sets_open 1
    ∷ connects 2
    ∷ lend 2 2 2
    ∷ [])
    ∷ part (Step 3) []
    ∷ part (Step 3) (runs 2 2 2 set_c ∷ [])
    ∷ part StepHouse []
    ∷ part (Step 3) (tests 2 2 2
    ∷ close 2 causes.OverLimit
    ∷ is_told 2
    ∷ [])
    ∷ part StepHouse (shuts 2 3
    ∷ gone 2
    ∷ [])
    ∷ part (calls_close 1 r) (closes 1 3 r
    ∷ closes_rows 1 2 1 3
    ∷ tests_after 1 2 1 3
    ∷ back 1
    ∷ Replied 3 replies.Ok
    ∷ [])
    ∷ [])
    (Ended
    ∷ close 1 causes.DbClosed
    ∷ shuts 1 3
    ∷ gone 1
    ∷ [])

-- Rows hold the connection until the run ends. Only then does the call of a client that waits reply, and the
-- client's next line is entered.
abbrev pub waits_until_the_end : Played
waits_until_the_end =
    played
    (part (limits 1) (sets_open 1 ∷ [])
    ∷ part (calls_query 1 r) (queries 1 1 r
    ∷ open_start 1 1
    ∷ connects 1
    ∷ lend 1 2 1
    ∷ sent 1 2 1 1 query cursor
    ∷ Replied 1 (replies.Rows columns)
    ∷ [])
    ∷ part (calls_exec 2 set_b) (enters_exec 2 2 set_b
    ∷ Waits 2
    ∷ [])
    ∷ part (calls_next 2 r) []
    ∷ [])
    (Ended
    ∷ closes_rows 1 2 1 0
    ∷ tests_after 1 2 1 0
    ∷ close 1 causes.DbClosed
    ∷ shuts 1 3
    ∷ gone 1
    ∷ Replied 2 (replies.DbClosed ends.EndOfRun)
    ∷ fetches 2 3 r
    ∷ Replied 3 (replies.Truth false)
    ∷ [])
