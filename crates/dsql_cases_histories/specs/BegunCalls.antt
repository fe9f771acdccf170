-- The beginnings that the example histories share.
use Rattle.std.specs.Prelude.{List, [], ◌∷◌, ◌++◌, codes}
use Rattle.dsql_history.specs.driver.declared.call.DriverCall.TheVariants.{Connect, CloseRows}
use Rattle.dsql_history.specs.driver.declared.answer.DriverAnswer.TheVariants as answers
use Rattle.dsql_history.specs.declared.event.Event.{Event}
use Rattle.dsql_history.specs.declared.event.Event.TheVariants.{Waits, Replied}
use Rattle.dsql_history.specs.declared.reply.Reply.TheVariants as replies
use Rattle.dsql_cases_histories.specs.CallWords.{run_untested, text, exec, query, columns, cursor, one_changed, executes, queries, fetches, closes, sets_open, open_start, lend, back, house, sent}

-- A history in which no call has entered yet.
abbrev pub started : List Event
started =
    run_untested
    ∷ []

-- A history in which the rows of a query hold connection 1.
abbrev pub queried : List Event
queried =
    started
    ++ queries 1 1 (codes "r")
    ∷ open_start 1 1
    ∷ house 1 1 Connect answers.Done
    ∷ lend 1 2 1
    ∷ sent 1 2 1 1 query cursor
    ∷ Replied 1 (replies.Rows columns)
    ∷ []

-- A history in which two clients fetch from the same rows.
abbrev pub fetched_twice : List Event
fetched_twice =
    queried
    ++ fetches 1 2 (codes "r")
    ∷ fetches 2 3 (codes "r")
    ∷ []

-- A history in which one client fetches from rows and another closes them.
abbrev pub fetched_and_closed : List Event
fetched_and_closed =
    queried
    ++ fetches 1 2 (codes "r")
    ∷ closes 2 3 (codes "r")
    ∷ []

-- A history in which an exec has its result.
abbrev pub executed : List Event
executed =
    started
    ++ executes 1 1
    ∷ open_start 1 1
    ∷ house 1 1 Connect answers.Done
    ∷ lend 1 2 1
    ∷ sent 1 2 1 1 (exec text) one_changed
    ∷ []

-- A history in which one connection may be open.
abbrev pub limited : List Event
limited =
    started
    ++ sets_open 1
    ∷ []

-- A history in which rows hold the one connection that may be open.
abbrev pub held : List Event
held =
    limited
    ++ queries 1 1 (codes "r")
    ∷ open_start 1 1
    ∷ house 1 1 Connect answers.Done
    ∷ lend 1 2 1
    ∷ sent 1 2 1 1 query cursor
    ∷ Replied 1 (replies.Rows columns)
    ∷ []

-- A history in which two calls wait for the one connection, which rows hold.
abbrev pub awaited : List Event
awaited =
    held
    ++ executes 2 2
    ∷ Waits 2
    ∷ executes 3 3
    ∷ Waits 3
    ∷ []

-- A history in which rows hold connections 1 and 2.
abbrev pub held_both : List Event
held_both =
    queried
    ++ queries 1 2 (codes "q")
    ∷ open_start 2 2
    ∷ house 2 1 Connect answers.Done
    ∷ lend 2 2 2
    ∷ sent 2 2 2 2 query cursor
    ∷ Replied 2 (replies.Rows columns)
    ∷ []

-- A history in which connections 2 and 1 are idle.
abbrev pub left_idle : List Event
left_idle =
    held_both
    ++ closes 1 3 (codes "q")
    ∷ sent 2 2 2 3 (CloseRows 1) answers.Done
    ∷ back 2
    ∷ Replied 3 replies.Ok
    ∷ closes 1 4 (codes "r")
    ∷ sent 1 2 1 4 (CloseRows 1) answers.Done
    ∷ back 1
    ∷ Replied 4 replies.Ok
    ∷ []
