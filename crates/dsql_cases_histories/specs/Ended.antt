-- Histories of what ends transactions, and of what becomes of the calls and rows in them. Each is oldest first.
use Rattle.std.specs.Prelude.{List, [], ◌∷◌, ◌++◌, true, false, codes}
use Rattle.dsql_history.specs.driver.declared.call.DriverCall.TheVariants as calls
use Rattle.dsql_history.specs.driver.declared.answer.DriverAnswer.TheVariants as answers
use Rattle.dsql_history.specs.pool.declared.moves.CloseCause.TheVariants as causes
use Rattle.dsql_history.specs.tx.declared.end.TxEnd.TheVariants as ends
use Rattle.dsql_history.specs.declared.event.Event.{Event}
use Rattle.dsql_history.specs.declared.event.Event.TheVariants.{Replied, Ended}
use Rattle.dsql_history.specs.declared.reply.Reply.TheVariants as replies
use Rattle.dsql_cases_histories.specs.Words.{run, x, y, r, s, exec, query, begin, one_changed, told_one_changed, columns, cursor, row, begins, executes_in, queries_in, fetches, closes, commits, rolls_back, open_start, lend_tx, back, close, gone, house, within, beside, handle, prepared, text}
use Rattle.dsql_cases_histories.specs.Begun.{begun, passed_on, queried_twice, committed}

-- A commit that waits for the turn lets the call that has the turn finish, and stops the call that waits.
abbrev pub a_commit_waits_for_the_turn : List Event
a_commit_waits_for_the_turn =
    passed_on
    ++ commits 3 4 x
    ∷ Replied 3 (replies.TxDone ends.Commit)
    ∷ within 1 2 1 2 (calls.Prepare text) prepared
    ∷ within 1 2 1 2 (calls.Exec handle []) one_changed
    ∷ within 1 2 1 2 (calls.CloseStmt 1) answers.Done
    ∷ Replied 2 told_one_changed
    ∷ within 1 2 1 4 calls.Commit answers.Done
    ∷ back 1
    ∷ Replied 4 replies.Ok
    ∷ []

-- A transaction is ended only by the first call that ends it. Later calls reply what ended it.
abbrev pub it_is_ended_once : List Event
it_is_ended_once =
    committed
    ++ rolls_back 1 3 x
    ∷ Replied 3 (replies.TxDone ends.Commit)
    ∷ executes_in x 2 4
    ∷ Replied 4 (replies.TxDone ends.Commit)
    ∷ []

-- A commit closes the rows of the transaction in the order of their queries, and they are over.
abbrev pub its_rows_are_closed_first : List Event
its_rows_are_closed_first =
    queried_twice
    ++ commits 2 4 x
    ∷ within 1 2 1 4 (calls.CloseRows 1) answers.Done
    ∷ within 1 2 1 4 (calls.CloseRows 2) answers.Done
    ∷ within 1 2 1 4 calls.Commit answers.Done
    ∷ back 1
    ∷ Replied 4 replies.Ok
    ∷ fetches 1 5 r
    ∷ Replied 5 (replies.Truth false)
    ∷ closes 1 6 s
    ∷ Replied 6 replies.Ok
    ∷ []

-- The query replies rows that come after the commit entered, and they are over.
abbrev pub rows_that_come_too_late : List Event
rows_that_come_too_late =
    begun
    ++ queries_in x 1 2 r
    ∷ commits 2 3 x
    ∷ within 1 2 1 2 query (cursor 1)
    ∷ Replied 2 (replies.Rows columns)
    ∷ fetches 1 4 r
    ∷ Replied 4 (replies.Truth false)
    ∷ within 1 2 1 3 (calls.CloseRows 1) answers.Done
    ∷ within 1 2 1 3 calls.Commit answers.Done
    ∷ back 1
    ∷ Replied 3 replies.Ok
    ∷ []

-- The fetch replies a row that was under way, and the call that ends the transaction closes the rows.
abbrev pub a_row_that_comes_too_late : List Event
a_row_that_comes_too_late =
    queried_twice
    ++ fetches 1 4 r
    ∷ rolls_back 2 5 x
    ∷ within 1 2 1 4 (calls.Next 1) row
    ∷ Replied 4 (replies.Truth true)
    ∷ within 1 2 1 5 (calls.CloseRows 1) answers.Done
    ∷ within 1 2 1 5 (calls.CloseRows 2) answers.Done
    ∷ within 1 2 1 5 calls.Rollback answers.Done
    ∷ back 1
    ∷ Replied 5 replies.Ok
    ∷ []

-- A close of rows that waits for the turn as their transaction ends replies Ok and sends nothing.
abbrev pub a_close_that_waits_sends_nothing : List Event
a_close_that_waits_sends_nothing =
    queried_twice
    ++ executes_in x 1 4
    ∷ closes 2 5 r
    ∷ commits 3 6 x
    ∷ Replied 5 replies.Ok
    ∷ within 1 2 1 4 exec one_changed
    ∷ Replied 4 told_one_changed
    ∷ within 1 2 1 6 (calls.CloseRows 1) answers.Done
    ∷ within 1 2 1 6 (calls.CloseRows 2) answers.Done
    ∷ within 1 2 1 6 calls.Commit answers.Done
    ∷ back 1
    ∷ Replied 6 replies.Ok
    ∷ []

-- A commit that fails has ended its transaction all the same.
abbrev pub a_commit_that_fails : List Event
a_commit_that_fails =
    begun
    ++ commits 1 2 x
    ∷ within 1 2 1 2 calls.Commit (answers.Fail (codes "no"))
    ∷ back 1
    ∷ Replied 2 (replies.Driver (codes "no"))
    ∷ rolls_back 1 3 x
    ∷ Replied 3 (replies.TxDone ends.Commit)
    ∷ []

-- The end of the run rolls back a transaction that goes on, and closes its rows.
abbrev pub the_end_of_the_run_rolls_back : List Event
the_end_of_the_run_rolls_back =
    queried_twice
    ++ Ended
    ∷ within 1 2 1 0 (calls.CloseRows 1) answers.Done
    ∷ within 1 2 1 0 (calls.CloseRows 2) answers.Done
    ∷ within 1 2 1 0 calls.Rollback answers.Done
    ∷ close 1 causes.DbClosed
    ∷ house 1 3 calls.Shut answers.Done
    ∷ gone 1
    ∷ executes_in x 1 4
    ∷ Replied 4 (replies.TxDone ends.EndOfRun)
    ∷ []

-- If the driver can test, a connection is tested after its transaction has ended, and reset for the next one.
abbrev pub it_is_tested_as_it_ends : List Event
it_is_tested_as_it_ends =
    run
    ∷ begins 1 1 x
    ∷ open_start 1 1
    ∷ house 1 1 calls.Connect answers.Done
    ∷ lend_tx 1 2 1
    ∷ within 1 2 1 1 begin answers.Done
    ∷ Replied 1 replies.Ok
    ∷ commits 1 2 x
    ∷ within 1 2 1 2 calls.Commit answers.Done
    ∷ beside 1 2 1 2 calls.Valid answers.Done
    ∷ back 1
    ∷ Replied 2 replies.Ok
    ∷ begins 2 3 y
    ∷ lend_tx 1 3 3
    ∷ beside 1 3 3 3 calls.Reset answers.Done
    ∷ within 1 3 3 3 begin answers.Done
    ∷ Replied 3 replies.Ok
    ∷ []
