-- Defines how the worked histories begin.
use Rattle.std.specs.Prelude.{List, [], ◌∷◌, ◌++◌}
use Rattle.dsql_history.specs.driver.declared.call.DriverCall.TheVariants as calls
use Rattle.dsql_history.specs.driver.declared.answer.DriverAnswer.TheVariants as answers
use Rattle.dsql_history.specs.declared.event.Event.{Event}
use Rattle.dsql_history.specs.declared.event.Event.TheVariants.{Replied}
use Rattle.dsql_history.specs.declared.reply.Reply.TheVariants as replies
use Rattle.dsql_cases_histories.specs.Words.{run_plain, x, y, r, s, exec, query, begin, columns, cursor, begins, executes_in, queries_in, commits, open_start, lend_tx, back, house, within}

-- A history in which client 1 began a transaction on connection 1, by call 1.
abbrev pub begun : List Event
begun =
    run_plain
    ∷ begins 1 1 x
    ∷ open_start 1 1
    ∷ house 1 1 calls.Connect answers.Done
    ∷ lend_tx 1 2 1
    ∷ within 1 2 1 1 begin answers.Done
    ∷ Replied 1 replies.Ok
    ∷ []

-- A history in which client 2 also began one on connection 2, by call 2.
abbrev pub begun_twice : List Event
begun_twice =
    begun
    ++ begins 2 2 y
    ∷ open_start 2 2
    ∷ house 2 1 calls.Connect answers.Done
    ∷ lend_tx 2 2 2
    ∷ within 2 2 2 2 begin answers.Done
    ∷ Replied 2 replies.Ok
    ∷ []

-- A history in which an exec in the transaction is under way, and client 2's waits for the turn.
abbrev pub waiting : List Event
waiting =
    begun
    ++ executes_in x 1 2
    ∷ executes_in x 2 3
    ∷ []

-- A history in which the driver skips the text of an exec, and another exec waits for the turn.
abbrev pub passed_on : List Event
passed_on =
    begun
    ++ executes_in x 1 2
    ∷ executes_in x 2 3
    ∷ within 1 2 1 2 exec answers.Skip
    ∷ []

-- A history in which two queries have handed out rows in the transaction.
abbrev pub queried_twice : List Event
queried_twice =
    begun
    ++ queries_in x 1 2 r
    ∷ within 1 2 1 2 query (cursor 1)
    ∷ Replied 2 (replies.Rows columns)
    ∷ queries_in x 1 3 s
    ∷ within 1 2 1 3 query (cursor 2)
    ∷ Replied 3 (replies.Rows columns)
    ∷ []

-- A history in which call 2 committed the transaction.
abbrev pub committed : List Event
committed =
    begun
    ++ commits 1 2 x
    ∷ within 1 2 1 2 calls.Commit answers.Done
    ∷ back 1
    ∷ Replied 2 replies.Ok
    ∷ []
