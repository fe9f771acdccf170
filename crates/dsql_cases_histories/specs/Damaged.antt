-- Histories that are damaged in one place, the last one. Each is oldest first.
use Rattle.std.specs.Prelude.{List, [], ◌∷◌, ◌++◌, false, codes}
use Rattle.dsql_history.specs.driver.declared.call.DriverCall.TheVariants as calls
use Rattle.dsql_history.specs.driver.declared.call.Level.TheVariants as levels
use Rattle.dsql_history.specs.driver.declared.answer.DriverAnswer.TheVariants as answers
use Rattle.dsql_history.specs.pool.declared.moves.CloseCause.TheVariants as causes
use Rattle.dsql_history.specs.tx.declared.end.TxEnd.TheVariants as ends
use Rattle.dsql_history.specs.declared.event.Event.{Event}
use Rattle.dsql_history.specs.declared.event.Event.TheVariants.{Replied, Ended}
use Rattle.dsql_history.specs.declared.reply.Reply.TheVariants as replies
use Rattle.dsql_cases_histories.specs.Words.{r, s, run, run_plain, x, exec, begin, one_changed, told_one_changed, begins, executes, executes_in, commits, rolls_back, open_start, lend_tx, lend, back, close, house, within, beside, fell, asks_for_stats, pings, closes_db, closes, fetches}
use Rattle.dsql_cases_histories.specs.Begun.{begun, begun_twice, waiting, passed_on, queried_twice}

-- A call on the database sends in a transaction.
abbrev pub a_call_on_the_database_sends_in_a_transaction : List Event
a_call_on_the_database_sends_in_a_transaction =
    begun
    ++ executes 2 2
    ∷ open_start 2 2
    ∷ within 1 2 1 2 exec one_changed
    ∷ []

-- A call of one transaction sends in another.
abbrev pub a_call_of_one_transaction_sends_in_another : List Event
a_call_of_one_transaction_sends_in_another =
    begun_twice
    ++ executes_in x 1 3
    ∷ within 2 2 2 3 exec one_changed
    ∷ []

-- A call breaks into a prepared exec of another.
abbrev pub one_breaks_into_a_prepared_exec : List Event
one_breaks_into_a_prepared_exec =
    passed_on
    ++ within 1 2 1 3 exec one_changed
    ∷ []

-- A call that waited for the turn sends after the commit entered.
abbrev pub what_waited_is_sent_after_the_commit : List Event
what_waited_is_sent_after_the_commit =
    waiting
    ++ commits 3 4 x
    ∷ within 1 2 1 2 exec one_changed
    ∷ Replied 2 told_one_changed
    ∷ within 1 2 1 3 exec one_changed
    ∷ []

-- The layer rolls back a transaction that goes on.
abbrev pub the_layer_rolls_it_back : List Event
the_layer_rolls_it_back =
    begun
    ++ within 1 2 1 0 calls.Rollback answers.Done
    ∷ []

-- The layer closes rows of a transaction that goes on.
abbrev pub the_layer_closes_its_rows : List Event
the_layer_closes_its_rows =
    queried_twice
    ++ within 1 2 1 0 (calls.CloseRows 1) answers.Done
    ∷ []

-- A commit sends a Rollback.
abbrev pub a_commit_rolls_back : List Event
a_commit_rolls_back =
    begun
    ++ commits 1 2 x
    ∷ within 1 2 1 2 calls.Rollback answers.Done
    ∷ []

-- A commit is sent twice.
abbrev pub a_commit_is_sent_twice : List Event
a_commit_is_sent_twice =
    begun
    ++ commits 1 2 x
    ∷ within 1 2 1 2 calls.Commit answers.Done
    ∷ within 1 2 1 2 calls.Commit answers.Done
    ∷ []

-- A commit leaves rows open.
abbrev pub a_commit_leaves_rows_open : List Event
a_commit_leaves_rows_open =
    queried_twice
    ++ commits 1 4 x
    ∷ within 1 2 1 4 (calls.CloseRows 1) answers.Done
    ∷ within 1 2 1 4 calls.Commit answers.Done
    ∷ []

-- A commit closes rows in an order other than that of their queries.
abbrev pub a_commit_closes_rows_in_another_order : List Event
a_commit_closes_rows_in_another_order =
    queried_twice
    ++ commits 1 4 x
    ∷ within 1 2 1 4 (calls.CloseRows 2) answers.Done
    ∷ []

-- A commit is sent while a call has the turn.
abbrev pub a_commit_breaks_into_a_call : List Event
a_commit_breaks_into_a_call =
    passed_on
    ++ commits 3 4 x
    ∷ Replied 3 (replies.TxDone ends.Commit)
    ∷ within 1 2 1 4 calls.Commit answers.Done
    ∷ []

-- A transaction that goes on loses its connection.
abbrev pub it_loses_its_connection : List Event
it_loses_its_connection =
    begun
    ++ commits 1 2 x
    ∷ back 1
    ∷ []

-- A connection is lent again while its transaction goes on.
abbrev pub it_is_lent_on : List Event
it_is_lent_on =
    begun
    ++ executes 2 2
    ∷ lend 1 3 2
    ∷ []

-- A begin borrows a connection as a call does.
abbrev pub a_begin_borrows_as_a_call : List Event
a_begin_borrows_as_a_call =
    run_plain
    ∷ begins 1 1 x
    ∷ open_start 1 1
    ∷ house 1 1 calls.Connect answers.Done
    ∷ lend 1 2 1
    ∷ []

-- A commit replies before its connection is back.
abbrev pub a_commit_replies_too_soon : List Event
a_commit_replies_too_soon =
    begun
    ++ commits 1 2 x
    ∷ within 1 2 1 2 calls.Commit answers.Done
    ∷ Replied 2 replies.Ok
    ∷ []

-- A reply says that a transaction that goes on is done.
abbrev pub it_is_said_to_be_done : List Event
it_is_said_to_be_done =
    begun
    ++ executes_in x 1 2
    ∷ Replied 2 (replies.TxDone ends.Commit)
    ∷ []

-- A commit that failed replies that it is done.
abbrev pub a_commit_that_failed_is_told_as_done : List Event
a_commit_that_failed_is_told_as_done =
    begun
    ++ commits 1 2 x
    ∷ within 1 2 1 2 calls.Commit (answers.Fail (codes "no"))
    ∷ back 1
    ∷ Replied 2 replies.Ok
    ∷ []

-- A reply says that a transaction was committed that a rollback ended.
abbrev pub a_rollback_is_told_as_a_commit : List Event
a_rollback_is_told_as_a_commit =
    begun
    ++ rolls_back 1 2 x
    ∷ within 1 2 1 2 calls.Rollback answers.Done
    ∷ back 1
    ∷ Replied 2 replies.Ok
    ∷ executes_in x 1 3
    ∷ Replied 3 (replies.TxDone ends.Commit)
    ∷ []

-- A driver call in a transaction doesn't have the transaction's number.
abbrev pub an_exec_in_it_has_no_number : List Event
an_exec_in_it_has_no_number =
    begun
    ++ executes_in x 1 2
    ∷ beside 1 2 1 2 exec one_changed
    ∷ []

-- A Begin has other options than the call's.
abbrev pub a_begin_is_asked_for_otherwise : List Event
a_begin_is_asked_for_otherwise =
    run
    ∷ begins 1 1 x
    ∷ open_start 1 1
    ∷ house 1 1 calls.Connect answers.Done
    ∷ lend_tx 1 2 1
    ∷ within 1 2 1 1 (calls.Begin levels.Snapshot false) answers.Done
    ∷ []

-- A call in a transaction tests its connection.
abbrev pub a_call_in_it_tests_its_connection : List Event
a_call_in_it_tests_its_connection =
    run
    ∷ begins 1 1 x
    ∷ open_start 1 1
    ∷ house 1 1 calls.Connect answers.Done
    ∷ lend_tx 1 2 1
    ∷ within 1 2 1 1 begin answers.Done
    ∷ Replied 1 replies.Ok
    ∷ executes_in x 1 2
    ∷ within 1 2 1 2 exec one_changed
    ∷ beside 1 2 1 2 calls.Valid answers.Done
    ∷ []

-- Rows are closed on a connection that is known to be bad.
abbrev pub rows_are_closed_on_a_bad_connection : List Event
rows_are_closed_on_a_bad_connection =
    queried_twice
    ++ executes_in x 1 4
    ∷ within 1 2 1 4 exec answers.Bad
    ∷ Replied 4 (replies.BadConn 1)
    ∷ rolls_back 1 5 x
    ∷ within 1 2 1 5 (calls.CloseRows 1) answers.Done
    ∷ []

-- The end of the run commits a transaction that goes on.
abbrev pub the_end_of_the_run_commits : List Event
the_end_of_the_run_commits =
    begun
    ++ Ended
    ∷ within 1 2 1 0 calls.Commit answers.Done
    ∷ []

-- The end of the run leaves a transaction as it is.
abbrev pub the_end_of_the_run_leaves_it : List Event
the_end_of_the_run_leaves_it =
    begun
    ++ Ended
    ∷ close 1 causes.DbClosed
    ∷ []

-- A call whose connection couldn't be opened asks again in the step of another, whose statistics don't count
-- that.
abbrev pub one_asks_in_the_step_of_another : List Event
one_asks_in_the_step_of_another =
    run_plain
    ∷ executes 1 1
    ∷ open_start 1 1
    ∷ house 1 1 calls.Connect answers.Bad
    ∷ fell 1 1
    ∷ asks_for_stats 2 2
    ∷ open_start 2 1
    ∷ []

-- A ping that rests with its connection gives it back in the step of another, whose statistics don't count
-- that.
abbrev pub a_ping_gives_back_in_the_step_of_another : List Event
a_ping_gives_back_in_the_step_of_another =
    run_plain
    ∷ pings 1 1
    ∷ open_start 1 1
    ∷ house 1 1 calls.Connect answers.Done
    ∷ lend 1 2 1
    ∷ asks_for_stats 2 2
    ∷ back 1
    ∷ []

-- A ping that gave its connection back replies a step later.
abbrev pub a_ping_that_gave_back_lingers : List Event
a_ping_that_gave_back_lingers =
    run_plain
    ∷ pings 1 1
    ∷ open_start 1 1
    ∷ house 1 1 calls.Connect answers.Done
    ∷ lend 1 2 1
    ∷ back 1
    ∷ asks_for_stats 2 2
    ∷ []

-- A close of rows has nothing to send, because their connection is bad, and replies a step later.
abbrev pub a_close_that_sends_nothing_lingers : List Event
a_close_that_sends_nothing_lingers =
    queried_twice
    ++ fetches 1 4 r
    ∷ within 1 2 1 4 (calls.Next 1) answers.Bad
    ∷ Replied 4 (replies.Truth false)
    ∷ closes 1 5 s
    ∷ asks_for_stats 2 6
    ∷ []

-- A begin whose connection was bad replies a step later that the database is closed.
abbrev pub a_begin_is_told_later_of_the_close : List Event
a_begin_is_told_later_of_the_close =
    run_plain
    ∷ begins 1 1 x
    ∷ open_start 1 1
    ∷ house 1 1 calls.Connect answers.Done
    ∷ lend_tx 1 2 1
    ∷ closes_db 2 2
    ∷ Replied 2 replies.Ok
    ∷ beside 1 2 1 1 begin answers.Bad
    ∷ close 1 causes.Bad
    ∷ house 1 3 calls.Shut answers.Done
    ∷ []
