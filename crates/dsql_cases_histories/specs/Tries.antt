-- Histories of calls that are tried again on other connections. Each is oldest first.
use Rattle.std.specs.Prelude.{List, [], ◌∷◌, ◌++◌, codes}
use Rattle.dsql_history.specs.driver.declared.call.DriverCall.TheVariants.{Connect, Reset, Valid, Ping, Next, CloseRows, Shut}
use Rattle.dsql_history.specs.driver.declared.answer.DriverAnswer.TheVariants as answers
use Rattle.dsql_history.specs.pool.declared.moves.CloseCause.TheVariants as causes
use Rattle.dsql_history.specs.declared.event.Event.{Event}
use Rattle.dsql_history.specs.declared.event.Event.TheVariants.{Replied, Ended}
use Rattle.dsql_history.specs.declared.reply.DbEnd.TheVariants as ends
use Rattle.dsql_history.specs.declared.reply.Reply.TheVariants as replies
use Rattle.dsql_cases_histories.specs.CallWords.{run, exec, query_of, text, row, cursor, one_changed, told_one_changed, executes, reads_one, pings, closes_db, sets_idle, open_start, lend, back, close, gone, fell, house, sent}

-- An exec finds its first connection bad.
abbrev pub once_bad : List Event
once_bad =
    run
    ∷ executes 1 1
    ∷ open_start 1 1
    ∷ house 1 1 Connect answers.Done
    ∷ lend 1 2 1
    ∷ sent 1 2 1 1 (exec text) answers.Bad
    ∷ close 1 causes.Bad
    ∷ []

-- An exec finds its second connection bad too.
abbrev pub twice_bad : List Event
twice_bad =
    once_bad
    ++ open_start 2 1
    ∷ house 1 3 Shut answers.Done
    ∷ gone 1
    ∷ house 2 1 Connect answers.Done
    ∷ lend 2 2 1
    ∷ sent 2 2 1 1 (exec text) answers.Bad
    ∷ close 2 causes.Bad
    ∷ []

-- An exec asks for a third connection.
abbrev pub asks_thrice : List Event
asks_thrice =
    twice_bad
    ++ open_start 3 1
    ∷ house 2 3 Shut answers.Done
    ∷ gone 2
    ∷ house 3 1 Connect answers.Done
    ∷ lend 3 2 1
    ∷ []

-- The third connection serves the exec.
abbrev pub the_third_try_is_well : List Event
the_third_try_is_well =
    asks_thrice
    ++ sent 3 2 1 1 (exec text) one_changed
    ∷ sent 3 2 1 1 Valid answers.Done
    ∷ back 3
    ∷ Replied 1 told_one_changed
    ∷ Ended
    ∷ close 3 causes.DbClosed
    ∷ house 3 3 Shut answers.Done
    ∷ gone 3
    ∷ []

-- The third connection is bad too.
abbrev pub thrice_bad : List Event
thrice_bad =
    asks_thrice
    ++ sent 3 2 1 1 (exec text) answers.Bad
    ∷ close 3 causes.Bad
    ∷ []

abbrev pub the_third_try_is_bad : List Event
the_third_try_is_bad =
    thrice_bad
    ++ Replied 1 (replies.BadConn 3)
    ∷ house 3 3 Shut answers.Done
    ∷ gone 3
    ∷ Ended
    ∷ []

-- The first connection of an exec is refused as bad.
abbrev pub refused_once : List Event
refused_once =
    run
    ∷ executes 1 1
    ∷ open_start 1 1
    ∷ house 1 1 Connect answers.Bad
    ∷ fell 1 1
    ∷ []

abbrev pub refused_twice : List Event
refused_twice =
    refused_once
    ++ open_start 2 1
    ∷ house 2 1 Connect answers.Bad
    ∷ fell 2 1
    ∷ []

abbrev pub three_are_refused : List Event
three_are_refused =
    refused_twice
    ++ open_start 3 1
    ∷ house 3 1 Connect answers.Bad
    ∷ fell 3 1
    ∷ Replied 1 (replies.BadConn 3)
    ∷ Ended
    ∷ []

-- The opening of the second connection fails, and the exec replies with the failure at once.
abbrev pub the_second_is_refused_for_good : List Event
the_second_is_refused_for_good =
    refused_once
    ++ open_start 2 1
    ∷ house 2 1 Connect (answers.Fail (codes "no"))
    ∷ fell 2 1
    ∷ Replied 1 (replies.Driver (codes "no"))
    ∷ Ended
    ∷ []

-- The database is closed before the call asks again.
abbrev pub closed_before_the_second_try : List Event
closed_before_the_second_try =
    refused_once
    ++ closes_db 2 2
    ∷ Replied 2 replies.Ok
    ∷ Replied 1 (replies.DbClosed ends.Close)
    ∷ Ended
    ∷ []

-- The database is closed while the driver has the text, and the connection then turns out to be bad.
abbrev pub closed_before_the_first_one_is_lost : List Event
closed_before_the_first_one_is_lost =
    run
    ∷ executes 1 1
    ∷ open_start 1 1
    ∷ house 1 1 Connect answers.Done
    ∷ lend 1 2 1
    ∷ closes_db 2 2
    ∷ Replied 2 replies.Ok
    ∷ sent 1 2 1 1 (exec text) answers.Bad
    ∷ close 1 causes.Bad
    ∷ Replied 1 (replies.DbClosed ends.Close)
    ∷ []

-- Three connections are idle, and an exec finds two of them bad.
abbrev pub three_idle : List Event
three_idle =
    run
    ∷ sets_idle 3
    ∷ executes 1 1
    ∷ open_start 1 1
    ∷ executes 2 2
    ∷ open_start 2 2
    ∷ executes 3 3
    ∷ open_start 3 3
    ∷ house 1 1 Connect answers.Done
    ∷ lend 1 2 1
    ∷ house 2 1 Connect answers.Done
    ∷ lend 2 2 2
    ∷ house 3 1 Connect answers.Done
    ∷ lend 3 2 3
    ∷ sent 1 2 1 1 (exec text) one_changed
    ∷ sent 1 2 1 1 Valid answers.Done
    ∷ back 1
    ∷ Replied 1 told_one_changed
    ∷ sent 2 2 2 2 (exec text) one_changed
    ∷ sent 2 2 2 2 Valid answers.Done
    ∷ back 2
    ∷ Replied 2 told_one_changed
    ∷ sent 3 2 3 3 (exec text) one_changed
    ∷ sent 3 2 3 3 Valid answers.Done
    ∷ back 3
    ∷ Replied 3 told_one_changed
    ∷ executes 1 4
    ∷ lend 3 3 4
    ∷ sent 3 3 4 4 Reset answers.Bad
    ∷ close 3 causes.Bad
    ∷ lend 2 3 4
    ∷ house 3 4 Shut answers.Done
    ∷ gone 3
    ∷ sent 2 3 4 4 Reset answers.Done
    ∷ sent 2 3 4 4 (exec text) answers.Bad
    ∷ close 2 causes.Bad
    ∷ []

-- The exec opens a third connection although one is idle.
abbrev pub the_third_try_opens : List Event
the_third_try_opens =
    three_idle
    ++ open_start 4 4
    ∷ house 2 4 Shut answers.Done
    ∷ gone 2
    ∷ house 4 1 Connect answers.Done
    ∷ lend 4 2 4
    ∷ sent 4 2 4 4 (exec text) one_changed
    ∷ sent 4 2 4 4 Valid answers.Done
    ∷ back 4
    ∷ Replied 4 told_one_changed
    ∷ []

-- A call reads one row, and its fetch finds the connection bad.
abbrev pub a_row_is_asked_for_again : List Event
a_row_is_asked_for_again =
    run
    ∷ reads_one 1 1
    ∷ open_start 1 1
    ∷ house 1 1 Connect answers.Done
    ∷ lend 1 2 1
    ∷ sent 1 2 1 1 (query_of (codes "GET a")) cursor
    ∷ sent 1 2 1 1 (Next 1) answers.Bad
    ∷ close 1 causes.Bad
    ∷ open_start 2 1
    ∷ []

-- A row was read, and the close of its cursor finds the connection bad.
abbrev pub a_row_is_not_read_twice : List Event
a_row_is_not_read_twice =
    run
    ∷ reads_one 1 1
    ∷ open_start 1 1
    ∷ house 1 1 Connect answers.Done
    ∷ lend 1 2 1
    ∷ sent 1 2 1 1 (query_of (codes "GET a")) cursor
    ∷ sent 1 2 1 1 (Next 1) (row (codes "x"))
    ∷ sent 1 2 1 1 (CloseRows 1) answers.Bad
    ∷ close 1 causes.Bad
    ∷ Replied 1 (replies.BadConn 1)
    ∷ []

-- A ping whose connection is refused as bad is tried again. Its `Ping` is answered with `Bad`, and it replies
-- so with the number of its try.
abbrev pub a_ping_is_tried_again : List Event
a_ping_is_tried_again =
    run
    ∷ pings 1 1
    ∷ open_start 1 1
    ∷ house 1 1 Connect answers.Bad
    ∷ fell 1 1
    ∷ open_start 2 1
    ∷ house 2 1 Connect answers.Done
    ∷ lend 2 2 1
    ∷ sent 2 2 1 1 Ping answers.Bad
    ∷ close 2 causes.Bad
    ∷ Replied 1 (replies.BadConn 2)
    ∷ []
