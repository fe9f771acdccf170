-- Histories in which a step is cut off or another step comes between. Each is oldest first.
use Rattle.std.specs.Prelude.{List, [], ◌∷◌, ◌++◌, false, codes}
use Rattle.dsql_history.specs.driver.declared.call.DriverCall.TheVariants.{Connect, Next, CloseRows, Shut}
use Rattle.dsql_history.specs.driver.declared.answer.DriverAnswer.TheVariants as answers
use Rattle.dsql_history.specs.pool.declared.moves.CloseCause.TheVariants as causes
use Rattle.dsql_history.specs.declared.event.Event.{Event}
use Rattle.dsql_history.specs.declared.event.Event.TheVariants.{Replied, Ended}
use Rattle.dsql_history.specs.declared.reply.Reply.TheVariants as replies
use Rattle.dsql_cases_histories.specs.CallWords.{text, exec, query, cursor, row, one_changed, told_one_changed, executes, queries, fetches, closes, asks_for_fault, open_start, lend, back, close, gone, house, sent, run}
use Rattle.dsql_cases_histories.specs.BegunCalls.{started, queried, executed}

-- An exec gives its connection back after another call was served.
abbrev pub an_exec_gives_back_after_another_was_served : List Event
an_exec_gives_back_after_another_was_served =
    executed
    ++ executes 2 2
    ∷ open_start 2 2
    ∷ house 2 1 Connect answers.Done
    ∷ lend 2 2 2
    ∷ sent 2 2 2 2 (exec text) one_changed
    ∷ back 2
    ∷ Replied 2 told_one_changed
    ∷ back 1
    ∷ Replied 1 told_one_changed
    ∷ []

-- An exec replies after another call was served.
abbrev pub an_exec_replies_after_another_was_served : List Event
an_exec_replies_after_another_was_served =
    executed
    ++ back 1
    ∷ executes 2 2
    ∷ open_start 2 2
    ∷ house 2 1 Connect answers.Done
    ∷ lend 2 2 2
    ∷ sent 2 2 2 2 (exec text) one_changed
    ∷ back 2
    ∷ Replied 2 told_one_changed
    ∷ Replied 1 told_one_changed
    ∷ []

-- An exec replies before it gives its connection back.
abbrev pub an_exec_replies_before_it_gives_back : List Event
an_exec_replies_before_it_gives_back =
    executed
    ++ Replied 1 told_one_changed
    ∷ back 1
    ∷ []

-- A bad connection closes after another call entered.
abbrev pub a_bad_connection_closes_after_another_entered : List Event
a_bad_connection_closes_after_another_entered =
    started
    ++ executes 1 1
    ∷ open_start 1 1
    ∷ house 1 1 Connect answers.Done
    ∷ lend 1 2 1
    ∷ sent 1 2 1 1 (exec text) answers.Bad
    ∷ asks_for_fault 2 2 (codes "zz")
    ∷ Replied 2 (replies.Absent (codes "zz"))
    ∷ close 1 causes.Bad
    ∷ open_start 2 1
    ∷ []

-- A query has its cursor and no reply while another call is served.
abbrev pub a_query_has_its_cursor_and_no_reply_while_another_is_served : List Event
a_query_has_its_cursor_and_no_reply_while_another_is_served =
    started
    ++ queries 1 1 (codes "r")
    ∷ open_start 1 1
    ∷ house 1 1 Connect answers.Done
    ∷ lend 1 2 1
    ∷ sent 1 2 1 1 query cursor
    ∷ executes 2 2
    ∷ open_start 2 2
    ∷ house 2 1 Connect answers.Done
    ∷ lend 2 2 2
    ∷ sent 2 2 2 2 (exec text) one_changed
    ∷ back 2
    ∷ Replied 2 told_one_changed
    ∷ []

-- A fetch has its row and no reply while another call is served.
abbrev pub a_fetch_has_its_row_and_no_reply_while_another_is_served : List Event
a_fetch_has_its_row_and_no_reply_while_another_is_served =
    queried
    ++ fetches 1 2 (codes "r")
    ∷ sent 1 2 1 2 (Next 1) (row (codes "a"))
    ∷ executes 2 3
    ∷ open_start 2 3
    ∷ house 2 1 Connect answers.Done
    ∷ lend 2 2 3
    ∷ sent 2 2 3 3 (exec text) one_changed
    ∷ back 2
    ∷ Replied 3 told_one_changed
    ∷ []

-- A fetch of ended rows has no reply, and their connection is gone.
abbrev pub a_fetch_of_ended_rows_is_not_told_and_their_connection_is_gone : List Event
a_fetch_of_ended_rows_is_not_told_and_their_connection_is_gone =
    queried
    ++ fetches 1 2 (codes "r")
    ∷ sent 1 2 1 2 (Next 1) answers.Bad
    ∷ close 1 causes.Bad
    ∷ Replied 2 (replies.Truth false)
    ∷ house 1 3 Shut answers.Done
    ∷ gone 1
    ∷ fetches 1 3 (codes "r")
    ∷ []

-- A close of ended rows has no reply, and their connection is idle.
abbrev pub a_close_of_ended_rows_is_not_told_and_their_connection_is_idle : List Event
a_close_of_ended_rows_is_not_told_and_their_connection_is_idle =
    queried
    ++ closes 1 2 (codes "r")
    ∷ sent 1 2 1 2 (CloseRows 1) answers.Done
    ∷ back 1
    ∷ Replied 2 replies.Ok
    ∷ closes 1 3 (codes "r")
    ∷ []

-- A fetch of ended rows has no reply, and another call has their connection.
abbrev pub a_fetch_of_ended_rows_is_not_told_and_another_has_their_connection : List Event
a_fetch_of_ended_rows_is_not_told_and_another_has_their_connection =
    queried
    ++ closes 1 2 (codes "r")
    ∷ sent 1 2 1 2 (CloseRows 1) answers.Done
    ∷ back 1
    ∷ Replied 2 replies.Ok
    ∷ fetches 1 3 (codes "r")
    ∷ executes 2 4
    ∷ lend 1 3 4
    ∷ []

-- A connection comes back between the entry of a call and its lending.
abbrev pub a_connection_comes_back_between_a_call_and_its_lending : List Event
a_connection_comes_back_between_a_call_and_its_lending =
    executed
    ++ executes 2 2
    ∷ back 1
    ∷ Replied 1 told_one_changed
    ∷ lend 1 3 2
    ∷ []

-- A call that asks for a connection is overtaken by another.
abbrev pub a_call_that_asks_is_overtaken_by_another : List Event
a_call_that_asks_is_overtaken_by_another =
    started
    ++ executes 1 1
    ∷ executes 2 2
    ∷ open_start 1 1
    ∷ open_start 2 2
    ∷ []

-- A fetch of absent rows has no reply, and their connection is being opened.
abbrev pub a_fetch_of_absent_rows_is_not_told_and_their_connection_is_being_opened : List Event
a_fetch_of_absent_rows_is_not_told_and_their_connection_is_being_opened =
    started
    ++ queries 1 1 (codes "r")
    ∷ open_start 1 1
    ∷ fetches 2 2 (codes "r")
    ∷ house 1 1 Connect answers.Done
    ∷ lend 1 2 1
    ∷ []

-- A fetch after the end of the run has no reply.
abbrev pub a_next_after_the_end_is_not_told : List Event
a_next_after_the_end_is_not_told =
    queried
    ++ Ended
    ∷ fetches 1 2 (codes "r")
    ∷ sent 1 2 1 0 (CloseRows 1) answers.Done
    ∷ close 1 causes.DbClosed
    ∷ Replied 2 (replies.Truth false)
    ∷ []

-- An exec replies before its connection is tested.
abbrev pub an_exec_replies_before_its_connection_is_tested : List Event
an_exec_replies_before_its_connection_is_tested =
    run
    ∷ []
    ++ executes 1 1
    ∷ open_start 1 1
    ∷ house 1 1 Connect answers.Done
    ∷ lend 1 2 1
    ∷ sent 1 2 1 1 (exec text) one_changed
    ∷ Replied 1 told_one_changed
    ∷ []
