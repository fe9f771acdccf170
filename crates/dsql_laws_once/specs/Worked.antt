-- Worked histories of calls that read one row. Each is oldest first.
use Rattle.std.specs.Prelude.{ℕ, List, [], ◌∷◌, ◌++◌, codes, length, reverse, take}
use Rattle.dsql_laws_calls.specs.driver.declared.call.DriverCall.TheVariants.{Connect, Valid, Next, CloseRows, Shut}
use Rattle.dsql_laws_calls.specs.driver.declared.answer.DriverAnswer.TheVariants as answers
use Rattle.dsql_laws_calls.specs.scan.declared.cell.Cell.TheVariants as cells
use Rattle.dsql_laws_calls.specs.scan.declared.dest.Dest.TheVariants as dests
use Rattle.dsql_laws_calls.specs.pool.declared.moves.CloseCause.TheVariants as causes
use Rattle.dsql_laws_calls.specs.history.declared.event.Event.{Event}
use Rattle.dsql_laws_calls.specs.history.declared.event.Event.TheVariants.{Entered, Replied}
use Rattle.dsql_laws_calls.specs.history.declared.event.Op.TheVariants as ops
use Rattle.dsql_laws_calls.specs.history.declared.event.Target.{Target}
use Rattle.dsql_laws_calls.specs.history.declared.event.Target.TheVariants.{Db, Label}
use Rattle.dsql_laws_calls.specs.history.declared.reply.Reply.TheVariants as replies
use Rattle.dsql_cases_histories.specs.Begun.{begun}
use Rattle.dsql_cases_histories.specs.Words.{run, x, rows_text, query, cursor, row, open_start, lend, back, close, gone, house, called, within}
use Rattle.dsql_laws_once.specs.Counted.{counted}

-- Returns how many entries count for call n after the first k events.
abbrev pub count_after : ℕ → ℕ → List Event → ℕ
count_after k n history = length (counted (reverse (take k history)) n)

-- Returns the event in which client 1's call n reads one row from the target.
abbrev pub reads_one_on : Target → ℕ → Event
reads_one_on target n = Entered 1 n (ops.One target (dests.Any ∷ []) rows_text [])

-- The cursor of a row is opened.
abbrev pub a_row_is_queried_for : List Event
a_row_is_queried_for =
    run
    ∷ reads_one_on Db 1
    ∷ open_start 1 1
    ∷ house 1 1 Connect answers.Done
    ∷ lend 1 2 1
    ∷ called 1 2 1 query (cursor 1)
    ∷ []

-- The first fetch of the row finds the connection bad, and the row is read on a second connection.
abbrev pub a_row_is_read_on_the_second_one : List Event
a_row_is_read_on_the_second_one =
    a_row_is_queried_for
    ++ called 1 2 1 (Next 1) answers.Bad
    ∷ close 1 causes.Bad
    ∷ open_start 2 1
    ∷ house 1 3 Shut answers.Done
    ∷ gone 1
    ∷ house 2 1 Connect answers.Done
    ∷ lend 2 2 1
    ∷ called 2 2 1 query (cursor 1)
    ∷ called 2 2 1 (Next 1) row
    ∷ called 2 2 1 (CloseRows 1) answers.Done
    ∷ called 2 2 1 Valid answers.Done
    ∷ back 2
    ∷ Replied 1 (replies.Cells (cells.Text (codes "a") ∷ []))
    ∷ []

-- The query is sent again although its row wasn't fetched.
abbrev pub a_row_is_queried_for_twice_at_once : List Event
a_row_is_queried_for_twice_at_once =
    a_row_is_queried_for
    ++ called 1 2 1 query (cursor 1)
    ∷ []

-- The query is sent again although its row was read, because the close of its cursor found the connection bad.
abbrev pub a_row_is_read_twice : List Event
a_row_is_read_twice =
    a_row_is_queried_for
    ++ called 1 2 1 (Next 1) row
    ∷ called 1 2 1 (CloseRows 1) answers.Bad
    ∷ close 1 causes.Bad
    ∷ open_start 2 1
    ∷ house 1 3 Shut answers.Done
    ∷ gone 1
    ∷ house 2 1 Connect answers.Done
    ∷ lend 2 2 1
    ∷ called 2 2 1 query (cursor 1)
    ∷ []

-- In a transaction, the fetch of a row finds the connection bad.
abbrev pub a_row_is_lost_in_a_transaction : List Event
a_row_is_lost_in_a_transaction =
    begun
    ++ reads_one_on (Label x) 2
    ∷ within 1 2 1 2 query (cursor 1)
    ∷ within 1 2 1 2 (Next 1) answers.Bad
    ∷ []

-- The call replies that the connection is bad.
abbrev pub a_row_is_told_as_lost : List Event
a_row_is_told_as_lost =
    a_row_is_lost_in_a_transaction
    ++ Replied 2 (replies.BadConn 1)
    ∷ []

-- The call queries again.
abbrev pub a_row_is_queried_for_again_in_a_transaction : List Event
a_row_is_queried_for_again_in_a_transaction =
    a_row_is_lost_in_a_transaction
    ++ within 1 2 1 2 query (cursor 2)
    ∷ []
