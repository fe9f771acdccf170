-- Histories of pings. Each is oldest first.
use Rattle.std.specs.Prelude.{List, [], ◌∷◌, ◌++◌, codes}
use Rattle.dsql_history.specs.driver.declared.call.DriverCall.TheVariants.{Connect, Reset, Valid, Ping, Shut}
use Rattle.dsql_history.specs.driver.declared.answer.DriverAnswer.TheVariants as answers
use Rattle.dsql_history.specs.pool.declared.moves.CloseCause.TheVariants as causes
use Rattle.dsql_history.specs.declared.event.Event.{Event}
use Rattle.dsql_history.specs.declared.event.Event.TheVariants.{Waits, Replied, Ended}
use Rattle.dsql_history.specs.declared.reply.DbEnd.TheVariants as db_ends
use Rattle.dsql_history.specs.declared.reply.Reply.TheVariants as replies
use Rattle.dsql_cases_histories.specs.CallWords.{run, run_pingless, text, exec, one_changed, told_one_changed, executes, pings, closes_db, sets_open, open_start, lend, back, close, gone, fell, house, sent}
use Rattle.dsql_cases_histories.specs.BegunCalls.{started}

-- A connection is lent to a ping, and the driver can ping.
abbrev pub lent_to_a_ping : List Event
lent_to_a_ping =
    run
    ∷ pings 1 1
    ∷ open_start 1 1
    ∷ house 1 1 Connect answers.Done
    ∷ lend 1 2 1
    ∷ []

-- A connection is lent to a ping, and the driver can't ping.
abbrev pub lent_to_a_ping_in_vain : List Event
lent_to_a_ping_in_vain =
    run_pingless
    ∷ pings 1 1
    ∷ open_start 1 1
    ∷ house 1 1 Connect answers.Done
    ∷ lend 1 2 1
    ∷ []

-- A new connection is pinged.
abbrev pub a_new_connection_is_pinged : List Event
a_new_connection_is_pinged =
    lent_to_a_ping
    ++ sent 1 2 1 1 Ping answers.Done
    ∷ sent 1 2 1 1 Valid answers.Done
    ∷ back 1
    ∷ Replied 1 replies.Ok
    ∷ Ended
    ∷ close 1 causes.DbClosed
    ∷ house 1 3 Shut answers.Done
    ∷ gone 1
    ∷ []

-- A driver can't ping: the connection is tested, and the ping replies when it comes back.
abbrev pub a_driver_that_cannot_ping_is_sent_none : List Event
a_driver_that_cannot_ping_is_sent_none =
    lent_to_a_ping_in_vain
    ++ sent 1 2 1 1 Valid answers.Done
    ∷ back 1
    ∷ Replied 1 replies.Ok
    ∷ Ended
    ∷ close 1 causes.DbClosed
    ∷ house 1 3 Shut answers.Done
    ∷ gone 1
    ∷ []

-- A driver can neither ping nor test: nothing is sent on the connection that is lent to a ping.
abbrev pub rests_with_a_connection : List Event
rests_with_a_connection =
    started
    ++ pings 1 1
    ∷ open_start 1 1
    ∷ house 1 1 Connect answers.Done
    ∷ lend 1 2 1
    ∷ []

-- A ping that rests gives its connection back and replies, in a step of its own.
abbrev pub a_ping_rests_with_its_connection : List Event
a_ping_rests_with_its_connection =
    rests_with_a_connection
    ++ back 1
    ∷ Replied 1 replies.Ok
    ∷ Ended
    ∷ close 1 causes.DbClosed
    ∷ house 1 3 Shut answers.Done
    ∷ gone 1
    ∷ []

-- Another call enters before a ping that rests gives its connection back.
abbrev pub a_call_comes_while_a_ping_rests : List Event
a_call_comes_while_a_ping_rests =
    rests_with_a_connection
    ++ executes 2 2
    ∷ open_start 2 2
    ∷ back 1
    ∷ Replied 1 replies.Ok
    ∷ []

-- An idle connection is lent to a ping, which replies in the same step.
abbrev pub a_ping_rests_with_an_idle_connection : List Event
a_ping_rests_with_an_idle_connection =
    rests_with_a_connection
    ++ back 1
    ∷ Replied 1 replies.Ok
    ∷ pings 1 2
    ∷ lend 1 3 2
    ∷ back 1
    ∷ Replied 2 replies.Ok
    ∷ []

-- Two pings have one connection, one after the other.
abbrev pub a_ping_waits_for_one_that_rests : List Event
a_ping_waits_for_one_that_rests =
    started
    ++ sets_open 1
    ∷ pings 1 1
    ∷ open_start 1 1
    ∷ pings 2 2
    ∷ Waits 2
    ∷ house 1 1 Connect answers.Done
    ∷ lend 1 2 1
    ∷ back 1
    ∷ lend 1 3 2
    ∷ Replied 1 replies.Ok
    ∷ back 1
    ∷ Replied 2 replies.Ok
    ∷ []

-- A test finds the connection invalid, and the ping replies with `Ok` all the same.
abbrev pub a_test_finds_a_pinged_connection_invalid : List Event
a_test_finds_a_pinged_connection_invalid =
    lent_to_a_ping_in_vain
    ++ sent 1 2 1 1 Valid answers.Invalid
    ∷ close 1 causes.Invalid
    ∷ Replied 1 replies.Ok
    ∷ house 1 3 Shut answers.Done
    ∷ gone 1
    ∷ []

-- A ping fails, and the connection is kept.
abbrev pub a_ping_fails : List Event
a_ping_fails =
    lent_to_a_ping
    ++ sent 1 2 1 1 Ping (answers.Fail (codes "no"))
    ∷ sent 1 2 1 1 Valid answers.Done
    ∷ back 1
    ∷ Replied 1 (replies.Driver (codes "no"))
    ∷ []

-- A ping finds the connection bad.
abbrev pub a_ping_finds_the_connection_bad : List Event
a_ping_finds_the_connection_bad =
    lent_to_a_ping
    ++ sent 1 2 1 1 Ping answers.Bad
    ∷ close 1 causes.Bad
    ∷ Replied 1 (replies.BadConn 1)
    ∷ house 1 3 Shut answers.Done
    ∷ gone 1
    ∷ []

-- A history in which a connection that was used before is lent to a ping.
abbrev pub executed_before : List Event
executed_before =
    run
    ∷ executes 1 1
    ∷ open_start 1 1
    ∷ house 1 1 Connect answers.Done
    ∷ lend 1 2 1
    ∷ sent 1 2 1 1 (exec text) one_changed
    ∷ sent 1 2 1 1 Valid answers.Done
    ∷ back 1
    ∷ Replied 1 told_one_changed
    ∷ pings 1 2
    ∷ lend 1 3 2
    ∷ []

abbrev pub a_used_connection_is_reset_and_pinged : List Event
a_used_connection_is_reset_and_pinged =
    executed_before
    ++ sent 1 3 2 2 Reset answers.Done
    ∷ sent 1 3 2 2 Ping answers.Done
    ∷ sent 1 3 2 2 Valid answers.Done
    ∷ back 1
    ∷ Replied 2 replies.Ok
    ∷ Ended
    ∷ close 1 causes.DbClosed
    ∷ house 1 4 Shut answers.Done
    ∷ gone 1
    ∷ []

-- The reset finds the connection bad, and another connection is pinged.
abbrev pub a_reset_finds_the_connection_bad : List Event
a_reset_finds_the_connection_bad =
    executed_before
    ++ sent 1 3 2 2 Reset answers.Bad
    ∷ close 1 causes.Bad
    ∷ open_start 2 2
    ∷ house 1 4 Shut answers.Done
    ∷ gone 1
    ∷ house 2 1 Connect answers.Done
    ∷ lend 2 2 2
    ∷ sent 2 2 2 2 Ping answers.Done
    ∷ sent 2 2 2 2 Valid answers.Done
    ∷ back 2
    ∷ Replied 2 replies.Ok
    ∷ []

-- No connection can be opened for a ping.
abbrev pub a_ping_gets_no_connection : List Event
a_ping_gets_no_connection =
    run_pingless
    ∷ pings 1 1
    ∷ open_start 1 1
    ∷ house 1 1 Connect (answers.Fail (codes "down"))
    ∷ fell 1 1
    ∷ Replied 1 (replies.Driver (codes "down"))
    ∷ []

-- An exec has the one connection that may be open, and a ping waits for it.
abbrev pub a_ping_waits : List Event
a_ping_waits =
    run_pingless
    ∷ sets_open 1
    ∷ executes 1 1
    ∷ open_start 1 1
    ∷ house 1 1 Connect answers.Done
    ∷ lend 1 2 1
    ∷ pings 2 2
    ∷ Waits 2
    ∷ []

-- A ping that waited is served when the connection is back, and tests it.
abbrev pub a_ping_that_waited_is_served : List Event
a_ping_that_waited_is_served =
    a_ping_waits
    ++ sent 1 2 1 1 (exec text) one_changed
    ∷ sent 1 2 1 1 Valid answers.Done
    ∷ back 1
    ∷ lend 1 3 2
    ∷ Replied 1 told_one_changed
    ∷ sent 1 3 2 2 Reset answers.Done
    ∷ sent 1 3 2 2 Valid answers.Done
    ∷ back 1
    ∷ Replied 2 replies.Ok
    ∷ []

-- The database is closed while a ping waits, and the ping replies that it is closed. A ping that enters later
-- replies so at once.
abbrev pub pings_of_a_closed_database : List Event
pings_of_a_closed_database =
    a_ping_waits
    ++ closes_db 3 3
    ∷ Replied 3 replies.Ok
    ∷ Replied 2 (replies.DbClosed db_ends.Close)
    ∷ pings 2 4
    ∷ Replied 4 (replies.DbClosed db_ends.Close)
    ∷ []

-- A driver can neither ping nor test, and a ping replies that the database is closed.
abbrev pub a_close_is_told_first : List Event
a_close_is_told_first =
    started
    ++ closes_db 1 1
    ∷ Replied 1 replies.Ok
    ∷ pings 1 2
    ∷ Replied 2 (replies.DbClosed db_ends.Close)
    ∷ []
