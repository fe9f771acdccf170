-- Runs of held calls and single steps whose parts follow their lines. Parts and events are oldest first.
use Rattle.std.specs.Prelude.{true, false, [], ◌∷◌, codes}
use Rattle.dsql_history.specs.driver.declared.call.DriverCall.TheVariants.{Next}
use Rattle.dsql_history.specs.pool.declared.moves.CloseCause.TheVariants as causes
use Rattle.dsql_history.specs.declared.event.Event.TheVariants.{Waits, Replied, Ended}
use Rattle.dsql_history.specs.declared.reply.Reply.TheVariants as replies
use Rattle.dsql_cases_histories.specs.CallWords.{query, columns, cursor, row, fetches, closes, asks_for_stats, closes_db, open_start, lend, back, close, gone, enters_exec, queries, stats, sets_open, sent}
use Rattle.dsql_follows.specs.declared.line.Line.TheVariants.{Skip, Step, StepHouse}
use Rattle.dsql_follows.specs.Follows.{Played}
use Rattle.dsql_cases_runs.specs.CallWords.{set_a, set_b, set_c, set_d, r, limits, calls_exec, calls_query, calls_next, calls_close, calls_stats, calls_db_close, starts_exec, starts_next, starts_stats, connects, shuts, resets, runs, tests, closes_rows, tests_after, is_told, part, played}

-- A call is held, two lines of its client are kept, and a second client waits.
abbrev pub held_and_kept : Played
held_and_kept =
    played
    (part (limits 1) (sets_open 1 ∷ [])
    ∷ part (starts_exec 1 set_a) (enters_exec 1 1 set_a
    ∷ open_start 1 1
    ∷ [])
    ∷ part (calls_stats 1) (connects 1
    ∷ lend 1 2 1
    ∷ [])
    ∷ part (starts_exec 1 set_b) []
    ∷ part (calls_exec 2 set_c) (enters_exec 2 2 set_c
    ∷ Waits 2
    ∷ [])
    ∷ part (Step 1) []
    ∷ part (Step 1) (runs 1 2 1 set_a ∷ [])
    ∷ part StepHouse []
    ∷ part (Step 1) (tests 1 2 1
    ∷ back 1
    ∷ lend 1 3 2
    ∷ is_told 1
    ∷ [])
    ∷ part (Step 1) (asks_for_stats 1 3
    ∷ Replied 3 (stats 1 1 1 0 1 0)
    ∷ [])
    ∷ part (Step 1) (enters_exec 1 4 set_b
    ∷ Waits 4
    ∷ [])
    ∷ part Skip (resets 1 3 2
    ∷ runs 1 3 2 set_c
    ∷ tests 1 3 2
    ∷ back 1
    ∷ lend 1 4 4
    ∷ is_told 2
    ∷ [])
    ∷ part (Step 1) []
    ∷ part (Step 1) (resets 1 4 4 ∷ [])
    ∷ part (calls_stats 3) (asks_for_stats 3 5
    ∷ Replied 5 (stats 1 1 1 0 2 0)
    ∷ [])
    ∷ [])
    (runs 1 4 4 set_b
    ∷ tests 1 4 4
    ∷ back 1
    ∷ is_told 4
    ∷ Ended
    ∷ close 1 causes.DbClosed
    ∷ shuts 1 5
    ∷ gone 1
    ∷ [])

-- Two held calls and the layer go on a step at a time.
abbrev pub stepped_by_hand : Played
stepped_by_hand =
    played
    (part (starts_exec 1 set_a) (enters_exec 1 1 set_a
    ∷ open_start 1 1
    ∷ [])
    ∷ part (starts_exec 2 set_b) (enters_exec 2 2 set_b
    ∷ open_start 2 2
    ∷ [])
    ∷ part StepHouse (connects 1
    ∷ lend 1 2 1
    ∷ [])
    ∷ part (Step 1) []
    ∷ part (Step 2) []
    ∷ part StepHouse (connects 2
    ∷ lend 2 2 2
    ∷ [])
    ∷ part StepHouse []
    ∷ part (Step 2) []
    ∷ part (Step 2) (runs 2 2 2 set_b ∷ [])
    ∷ part (Step 1) (runs 1 2 1 set_a ∷ [])
    ∷ part (Step 1) (tests 1 2 1
    ∷ back 1
    ∷ is_told 1
    ∷ [])
    ∷ [])
    (tests 2 2 2
    ∷ back 2
    ∷ is_told 2
    ∷ Ended
    ∷ close 1 causes.DbClosed
    ∷ close 2 causes.DbClosed
    ∷ shuts 1 3
    ∷ gone 1
    ∷ shuts 2 3
    ∷ gone 2
    ∷ [])

-- The same two calls are held, and the second is stepped to its end before the first.
abbrev pub stepped_in_the_other_order : Played
stepped_in_the_other_order =
    played
    (part (starts_exec 1 set_a) (enters_exec 1 1 set_a
    ∷ open_start 1 1
    ∷ [])
    ∷ part (starts_exec 2 set_b) (enters_exec 2 2 set_b
    ∷ open_start 2 2
    ∷ [])
    ∷ part StepHouse (connects 1
    ∷ lend 1 2 1
    ∷ [])
    ∷ part StepHouse (connects 2
    ∷ lend 2 2 2
    ∷ [])
    ∷ part (Step 2) []
    ∷ part (Step 2) (runs 2 2 2 set_b ∷ [])
    ∷ part (Step 2) (tests 2 2 2
    ∷ back 2
    ∷ is_told 2
    ∷ [])
    ∷ part (Step 2) []
    ∷ part (Step 1) []
    ∷ part (Step 1) (runs 1 2 1 set_a ∷ [])
    ∷ part (Step 1) (tests 1 2 1
    ∷ back 1
    ∷ is_told 1
    ∷ [])
    ∷ [])
    (Ended
    ∷ close 2 causes.DbClosed
    ∷ close 1 causes.DbClosed
    ∷ shuts 1 3
    ∷ gone 1
    ∷ shuts 2 3
    ∷ gone 2
    ∷ [])

-- Three calls work on the same rows. The later ones wait for the turn until the rows are closed.
abbrev pub shared_rows : Played
shared_rows =
    played
    (part (calls_query 1 r) (queries 1 1 r
    ∷ open_start 1 1
    ∷ connects 1
    ∷ lend 1 2 1
    ∷ sent 1 2 1 1 query cursor
    ∷ Replied 1 (replies.Rows columns)
    ∷ [])
    ∷ part (starts_next 2 r) (fetches 2 2 r ∷ [])
    ∷ part (calls_next 1 r) (fetches 1 3 r ∷ [])
    ∷ part (calls_close 3 r) (closes 3 4 r
    ∷ Replied 3 (replies.Truth false)
    ∷ [])
    ∷ part (Step 2) (sent 1 2 1 2 (Next 1) (row (codes "a"))
    ∷ Replied 2 (replies.Truth true)
    ∷ [])
    ∷ part (calls_stats 4) (asks_for_stats 4 5
    ∷ Replied 5 (stats 0 1 1 0 0 0)
    ∷ closes_rows 1 2 1 4
    ∷ tests_after 1 2 1 4
    ∷ back 1
    ∷ Replied 4 replies.Ok
    ∷ [])
    ∷ [])
    (Ended
    ∷ close 1 causes.DbClosed
    ∷ shuts 1 3
    ∷ gone 1
    ∷ [])

-- The database is closed while the driver has a driver call of a held call, whose answer comes later.
abbrev pub answered_after_a_close : Played
answered_after_a_close =
    played
    (part (starts_exec 1 set_a) (enters_exec 1 1 set_a
    ∷ open_start 1 1
    ∷ [])
    ∷ part StepHouse (connects 1
    ∷ lend 1 2 1
    ∷ [])
    ∷ part (Step 1) []
    ∷ part (calls_db_close 2) (closes_db 2 2
    ∷ Replied 2 replies.Ok
    ∷ [])
    ∷ part (Step 1) (runs 1 2 1 set_a ∷ [])
    ∷ part (Step 1) (tests 1 2 1
    ∷ close 1 causes.DbClosed
    ∷ is_told 1
    ∷ [])
    ∷ part (Step 1) []
    ∷ part StepHouse (shuts 1 3
    ∷ gone 1
    ∷ [])
    ∷ [])
    (Ended ∷ [])

-- Two calls are held at once, a client calls between them, and a line is kept until the end.
abbrev pub two_at_once : Played
two_at_once =
    played
    (part (starts_exec 1 set_a) (enters_exec 1 1 set_a
    ∷ open_start 1 1
    ∷ [])
    ∷ part (starts_exec 3 set_c) (enters_exec 3 2 set_c
    ∷ open_start 2 2
    ∷ [])
    ∷ part (calls_exec 2 set_b) (enters_exec 2 3 set_b
    ∷ open_start 3 3
    ∷ connects 1
    ∷ lend 1 2 1
    ∷ connects 2
    ∷ lend 2 2 2
    ∷ connects 3
    ∷ lend 3 2 3
    ∷ runs 3 2 3 set_b
    ∷ tests 3 2 3
    ∷ back 3
    ∷ is_told 3
    ∷ [])
    ∷ part (starts_stats 3) []
    ∷ part (Step 1) []
    ∷ part (Step 1) (runs 1 2 1 set_a ∷ [])
    ∷ part (Step 3) []
    ∷ part Skip []
    ∷ part (Step 3) (runs 2 2 2 set_c ∷ [])
    ∷ part (Step 3) (tests 2 2 2
    ∷ back 2
    ∷ is_told 2
    ∷ [])
    ∷ [])
    (tests 1 2 1
    ∷ close 1 causes.IdleFull
    ∷ is_told 1
    ∷ shuts 1 3
    ∷ gone 1
    ∷ asks_for_stats 3 4
    ∷ Replied 4 (stats 0 2 0 2 0 1)
    ∷ Ended
    ∷ close 3 causes.DbClosed
    ∷ close 2 causes.DbClosed
    ∷ shuts 2 3
    ∷ gone 2
    ∷ shuts 3 3
    ∷ gone 3
    ∷ [])

-- The script ends with three held calls, two of which wait, and with a kept line.
abbrev pub released_at_the_end : Played
released_at_the_end =
    played
    (part (limits 1) (sets_open 1 ∷ [])
    ∷ part (starts_exec 1 set_a) (enters_exec 1 1 set_a
    ∷ open_start 1 1
    ∷ [])
    ∷ part (starts_exec 2 set_b) (enters_exec 2 2 set_b
    ∷ Waits 2
    ∷ [])
    ∷ part (starts_exec 3 set_c) (enters_exec 3 3 set_c
    ∷ Waits 3
    ∷ [])
    ∷ part (starts_exec 3 set_d) []
    ∷ part (starts_stats 4) (asks_for_stats 4 4
    ∷ Replied 4 (stats 1 1 1 0 2 0)
    ∷ [])
    ∷ part StepHouse (connects 1
    ∷ lend 1 2 1
    ∷ [])
    ∷ [])
    (runs 1 2 1 set_a
    ∷ tests 1 2 1
    ∷ back 1
    ∷ lend 1 3 2
    ∷ is_told 1
    ∷ resets 1 3 2
    ∷ runs 1 3 2 set_b
    ∷ tests 1 3 2
    ∷ back 1
    ∷ lend 1 4 3
    ∷ is_told 2
    ∷ resets 1 4 3
    ∷ runs 1 4 3 set_c
    ∷ tests 1 4 3
    ∷ back 1
    ∷ is_told 3
    ∷ enters_exec 3 5 set_d
    ∷ lend 1 5 5
    ∷ resets 1 5 5
    ∷ runs 1 5 5 set_d
    ∷ tests 1 5 5
    ∷ back 1
    ∷ is_told 5
    ∷ Ended
    ∷ close 1 causes.DbClosed
    ∷ shuts 1 6
    ∷ gone 1
    ∷ [])
