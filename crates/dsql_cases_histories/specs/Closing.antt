-- Histories in which the database is closed and the run ends. Each is oldest first.
use Rattle.std.specs.Prelude.{List, [], ◌∷◌, ◌++◌, true, false, codes}
use Rattle.dsql_history.specs.driver.declared.call.DriverCall.TheVariants.{Connect, Next, CloseRows, Shut}
use Rattle.dsql_history.specs.driver.declared.answer.DriverAnswer.TheVariants as answers
use Rattle.dsql_history.specs.pool.declared.moves.CloseCause.TheVariants as causes
use Rattle.dsql_history.specs.declared.event.Event.{Event}
use Rattle.dsql_history.specs.declared.event.Event.TheVariants.{Replied, Ended}
use Rattle.dsql_history.specs.declared.reply.Reply.TheVariants as replies
use Rattle.dsql_history.specs.declared.reply.DbEnd.TheVariants as ends
use Rattle.dsql_cases_histories.specs.CallWords.{text, exec, row, one_changed, told_one_changed, too_great, executes, executes_with, reads_one, fetches, closes, asks_for_stats, closes_db, open_start, lend, close, gone, fell, house, sent, stats}
use Rattle.dsql_cases_histories.specs.BegunCalls.{started, queried, awaited, left_idle}

-- A close of the database refuses the calls that wait, each in a step of its own.
abbrev pub a_close_refuses_those_that_wait_each_at_its_own_step : List Event
a_close_refuses_those_that_wait_each_at_its_own_step =
    awaited
    ++ closes_db 1 4
    ∷ Replied 4 replies.Ok
    ∷ Replied 3 (replies.DbClosed ends.Close)
    ∷ Replied 2 (replies.DbClosed ends.Close)
    ∷ []

-- A close of the database closes the idle connections, the longest idle first.
abbrev pub a_close_closes_the_idle_ones_the_longest_idle_first : List Event
a_close_closes_the_idle_ones_the_longest_idle_first =
    left_idle
    ++ closes_db 1 5
    ∷ close 2 causes.DbClosed
    ∷ close 1 causes.DbClosed
    ∷ Replied 5 replies.Ok
    ∷ executes_with 2 6 too_great
    ∷ Replied 6 (replies.DbClosed ends.Close)
    ∷ []

-- A close of the database refuses the call that a connection is opened for, and the connection then closes.
abbrev pub a_close_refuses_the_call_of_an_opening_which_then_closes : List Event
a_close_refuses_the_call_of_an_opening_which_then_closes =
    started
    ++ executes 1 1
    ∷ open_start 1 1
    ∷ closes_db 2 2
    ∷ Replied 2 replies.Ok
    ∷ house 1 1 Connect answers.Done
    ∷ close 1 causes.DbClosed
    ∷ house 1 2 Shut answers.Done
    ∷ gone 1
    ∷ Replied 1 (replies.DbClosed ends.Close)
    ∷ []

-- A connection that is refused after the close of the database falls to nobody.
abbrev pub a_refused_one_of_a_closed_database_falls_to_nobody : List Event
a_refused_one_of_a_closed_database_falls_to_nobody =
    started
    ++ executes 1 1
    ∷ open_start 1 1
    ∷ closes_db 2 2
    ∷ Replied 2 replies.Ok
    ∷ house 1 1 Connect answers.Bad
    ∷ fell 1 0
    ∷ Replied 1 (replies.DbClosed ends.Close)
    ∷ []

-- A call that is under way goes on after the close of the database.
abbrev pub what_is_under_way_goes_on_after_a_close : List Event
what_is_under_way_goes_on_after_a_close =
    started
    ++ executes 1 1
    ∷ open_start 1 1
    ∷ house 1 1 Connect answers.Done
    ∷ lend 1 2 1
    ∷ closes_db 2 2
    ∷ Replied 2 replies.Ok
    ∷ sent 1 2 1 1 (exec text) one_changed
    ∷ close 1 causes.DbClosed
    ∷ Replied 1 told_one_changed
    ∷ []

-- Rows go on after the close of the database.
abbrev pub rows_go_on_after_a_close : List Event
rows_go_on_after_a_close =
    queried
    ++ closes_db 2 2
    ∷ Replied 2 replies.Ok
    ∷ fetches 1 3 (codes "r")
    ∷ sent 1 2 1 3 (Next 1) (row (codes "a"))
    ∷ Replied 3 (replies.Truth true)
    ∷ []

-- The run ends while calls wait.
abbrev pub the_run_ends_while_one_waits : List Event
the_run_ends_while_one_waits =
    awaited
    ++ Ended
    ∷ Replied 2 (replies.DbClosed ends.EndOfRun)
    ∷ sent 1 2 1 0 (CloseRows 1) answers.Done
    ∷ close 1 causes.DbClosed
    ∷ Replied 3 (replies.DbClosed ends.EndOfRun)
    ∷ house 1 3 Shut answers.Done
    ∷ gone 1
    ∷ []

-- Calls enter after the end of the run.
abbrev pub calls_after_the_end_of_the_run : List Event
calls_after_the_end_of_the_run =
    queried
    ++ Ended
    ∷ executes_with 1 2 too_great
    ∷ Replied 2 (replies.DbClosed ends.EndOfRun)
    ∷ fetches 1 3 (codes "r")
    ∷ Replied 3 (replies.Truth false)
    ∷ closes 1 4 (codes "r")
    ∷ Replied 4 replies.Ok
    ∷ closes_db 1 5
    ∷ Replied 5 replies.Ok
    ∷ asks_for_stats 1 6
    ∷ Replied 6 (stats 0 1 1 0 0 0)
    ∷ reads_one 1 7
    ∷ Replied 7 (replies.DbClosed ends.EndOfRun)
    ∷ sent 1 2 1 0 (CloseRows 1) answers.Done
    ∷ close 1 causes.DbClosed
    ∷ house 1 3 Shut answers.Done
    ∷ gone 1
    ∷ []

-- An exec enters after a close of the database and the end of the run.
abbrev pub an_exec_after_a_close_and_the_end : List Event
an_exec_after_a_close_and_the_end =
    queried
    ++ closes_db 2 2
    ∷ Replied 2 replies.Ok
    ∷ Ended
    ∷ executes 1 3
    ∷ Replied 3 (replies.DbClosed ends.Close)
    ∷ []
