-- Histories of transactions and the calls in them. Each is oldest first.
use Rattle.std.specs.Prelude.{List, [], ◌∷◌, ◌++◌, true, false, codes}
use Rattle.dsql_history.specs.driver.declared.call.DriverCall.TheVariants as calls
use Rattle.dsql_history.specs.driver.declared.call.Level.TheVariants as levels
use Rattle.dsql_history.specs.driver.declared.answer.DriverAnswer.TheVariants as answers
use Rattle.dsql_history.specs.pool.declared.moves.CloseCause.TheVariants as causes
use Rattle.dsql_history.specs.declared.reply.DbEnd.TheVariants as db_ends
use Rattle.dsql_history.specs.declared.event.Event.{Event}
use Rattle.dsql_history.specs.declared.event.Event.TheVariants.{Replied}
use Rattle.dsql_history.specs.declared.reply.Reply.TheVariants as replies
use Rattle.dsql_cases_histories.specs.Words.{run, run_plain, x, y, r, s, exec, begin, one_changed, told_one_changed, row, begins, begins_with, begins_to_read, executes, executes_in, fetches, closes, commits, rolls_back, closes_db, open_start, lend_tx, lend, back, close, gone, house, within, beside, handle, prepared, called, text}
use Rattle.dsql_cases_histories.specs.Begun.{begun, begun_twice, waiting, passed_on, queried_twice}

-- Two clients work in one transaction, each driver call in its turn.
abbrev pub two_clients_work_in_one_transaction : List Event
two_clients_work_in_one_transaction =
    waiting
    ++ within 1 2 1 2 exec one_changed
    ∷ Replied 2 told_one_changed
    ∷ within 1 2 1 3 exec one_changed
    ∷ Replied 3 told_one_changed
    ∷ commits 2 4 x
    ∷ within 1 2 1 4 calls.Commit answers.Done
    ∷ back 1
    ∷ Replied 4 replies.Ok
    ∷ []

-- An exec whose text the driver skips is prepared, run and closed, and only then does the other exec come.
abbrev pub a_prepared_exec_is_not_broken_into : List Event
a_prepared_exec_is_not_broken_into =
    passed_on
    ++ within 1 2 1 2 (calls.Prepare text) prepared
    ∷ within 1 2 1 2 (calls.Exec handle []) one_changed
    ∷ within 1 2 1 2 (calls.CloseStmt 1) answers.Done
    ∷ Replied 2 told_one_changed
    ∷ within 1 2 1 3 exec one_changed
    ∷ Replied 3 told_one_changed
    ∷ []

-- Calls of two transactions are under way at once, each on its own connection.
abbrev pub two_transactions_at_once : List Event
two_transactions_at_once =
    begun_twice
    ++ executes_in x 1 3
    ∷ executes_in y 2 4
    ∷ within 2 2 2 4 exec one_changed
    ∷ Replied 4 told_one_changed
    ∷ within 1 2 1 3 exec one_changed
    ∷ Replied 3 told_one_changed
    ∷ []

-- A call on the database gets a connection of its own while a transaction goes on.
abbrev pub the_database_works_on_beside_it : List Event
the_database_works_on_beside_it =
    begun
    ++ executes 2 2
    ∷ open_start 2 2
    ∷ house 2 1 calls.Connect answers.Done
    ∷ lend 2 2 2
    ∷ called 2 2 2 exec one_changed
    ∷ back 2
    ∷ Replied 2 told_one_changed
    ∷ []

-- Rows of a transaction are fetched and closed, and the transaction goes on.
abbrev pub rows_in_a_transaction : List Event
rows_in_a_transaction =
    queried_twice
    ++ fetches 2 4 r
    ∷ within 1 2 1 4 (calls.Next 1) row
    ∷ Replied 4 (replies.Truth true)
    ∷ fetches 1 5 s
    ∷ within 1 2 1 5 (calls.Next 2) answers.End
    ∷ within 1 2 1 5 (calls.CloseRows 2) answers.Done
    ∷ Replied 5 (replies.Truth false)
    ∷ closes 1 6 r
    ∷ within 1 2 1 6 (calls.CloseRows 1) answers.Done
    ∷ Replied 6 replies.Ok
    ∷ rolls_back 1 7 x
    ∷ within 1 2 1 7 calls.Rollback answers.Done
    ∷ back 1
    ∷ Replied 7 replies.Ok
    ∷ []

-- A Bad ends no transaction. The layer doesn't close its rows, but rolls it back, and then closes its
-- connection.
abbrev pub a_bad_answer_ends_no_transaction : List Event
a_bad_answer_ends_no_transaction =
    queried_twice
    ++ executes_in x 1 4
    ∷ within 1 2 1 4 exec answers.Bad
    ∷ Replied 4 (replies.BadConn 1)
    ∷ executes_in x 1 5
    ∷ within 1 2 1 5 exec one_changed
    ∷ Replied 5 told_one_changed
    ∷ rolls_back 1 6 x
    ∷ within 1 2 1 6 calls.Rollback answers.Done
    ∷ close 1 causes.Bad
    ∷ Replied 6 replies.Ok
    ∷ house 1 3 calls.Shut answers.Done
    ∷ gone 1
    ∷ []

-- A transaction goes on after the database is closed, and no other transaction is begun.
abbrev pub it_goes_on_after_the_database_is_closed : List Event
it_goes_on_after_the_database_is_closed =
    begun
    ++ closes_db 2 2
    ∷ Replied 2 replies.Ok
    ∷ executes_in x 1 3
    ∷ within 1 2 1 3 exec one_changed
    ∷ Replied 3 told_one_changed
    ∷ begins 2 4 y
    ∷ Replied 4 (replies.DbClosed db_ends.Close)
    ∷ commits 1 5 x
    ∷ within 1 2 1 5 calls.Commit answers.Done
    ∷ close 1 causes.DbClosed
    ∷ Replied 5 replies.Ok
    ∷ []

-- A Begin that is answered Bad is tried again on another connection.
abbrev pub a_begin_is_tried_again : List Event
a_begin_is_tried_again =
    run_plain
    ∷ begins 1 1 x
    ∷ open_start 1 1
    ∷ house 1 1 calls.Connect answers.Done
    ∷ lend_tx 1 2 1
    ∷ beside 1 2 1 1 begin answers.Bad
    ∷ close 1 causes.Bad
    ∷ open_start 2 1
    ∷ house 1 3 calls.Shut answers.Done
    ∷ gone 1
    ∷ house 2 1 calls.Connect answers.Done
    ∷ lend_tx 2 2 1
    ∷ within 2 2 1 1 begin answers.Done
    ∷ Replied 1 replies.Ok
    ∷ []

-- A begin that fails gives its connection back, tested, and begins nothing.
abbrev pub a_begin_that_fails_begins_nothing : List Event
a_begin_that_fails_begins_nothing =
    run
    ∷ begins 1 1 x
    ∷ open_start 1 1
    ∷ house 1 1 calls.Connect answers.Done
    ∷ lend_tx 1 2 1
    ∷ beside 1 2 1 1 begin (answers.Fail (codes "no"))
    ∷ beside 1 2 1 1 calls.Valid answers.Done
    ∷ back 1
    ∷ Replied 1 (replies.Driver (codes "no"))
    ∷ executes_in x 1 2
    ∷ Replied 2 (replies.Absent x)
    ∷ commits 1 3 x
    ∷ Replied 3 (replies.Absent x)
    ∷ []

-- The layer asks no options of a driver that accepts none. It checks the level first.
abbrev pub options_are_refused : List Event
options_are_refused =
    run_plain
    ∷ begins_with 1 1 x
    ∷ Replied 1 (replies.Isolation levels.Snapshot)
    ∷ begins_to_read 1 2 y
    ∷ Replied 2 replies.ReadOnly
    ∷ []
