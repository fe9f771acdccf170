-- Histories in which calls wait and limits are set. Each is oldest first.
use Rattle.std.specs.Prelude.{List, [], ◌∷◌, ◌++◌, codes}
use Rattle.dsql_history.specs.driver.declared.call.DriverCall.TheVariants.{Connect, CloseRows, Shut}
use Rattle.dsql_history.specs.driver.declared.answer.DriverAnswer.TheVariants as answers
use Rattle.dsql_history.specs.pool.declared.moves.CloseCause.TheVariants as causes
use Rattle.dsql_history.specs.declared.event.Event.{Event}
use Rattle.dsql_history.specs.declared.event.Event.TheVariants.{Waits, Replied}
use Rattle.dsql_history.specs.declared.reply.Reply.TheVariants as replies
use Rattle.dsql_cases_histories.specs.CallWords.{text, exec, query, columns, cursor, one_changed, told_one_changed, executes, queries, closes, asks_for_stats, sets_open, sets_idle, open_start, lend, back, close, gone, fell, house, sent, stats}
use Rattle.dsql_cases_histories.specs.BegunCalls.{limited, awaited, held_both, left_idle}

-- Two calls wait and are served in order.
abbrev pub two_wait_and_are_served_in_order : List Event
two_wait_and_are_served_in_order =
    awaited
    ++ closes 1 4 (codes "r")
    ∷ sent 1 2 1 4 (CloseRows 1) answers.Done
    ∷ back 1
    ∷ lend 1 3 2
    ∷ Replied 4 replies.Ok
    ∷ sent 1 3 2 2 (exec text) one_changed
    ∷ back 1
    ∷ lend 1 4 3
    ∷ Replied 2 told_one_changed
    ∷ sent 1 4 3 3 (exec text) one_changed
    ∷ back 1
    ∷ Replied 3 told_one_changed
    ∷ []

-- A raised limit opens connections for the calls that wait.
abbrev pub a_raised_limit_opens_for_those_that_wait : List Event
a_raised_limit_opens_for_those_that_wait =
    awaited
    ++ sets_open 2
    ∷ open_start 2 0
    ∷ house 2 1 Connect answers.Done
    ∷ lend 2 2 2
    ∷ sent 2 2 2 2 (exec text) one_changed
    ∷ back 2
    ∷ lend 2 3 3
    ∷ Replied 2 told_one_changed
    ∷ sent 2 3 3 3 (exec text) one_changed
    ∷ back 2
    ∷ Replied 3 told_one_changed
    ∷ []

-- A lifted limit opens two connections, and a refusal falls to the first call that waits.
abbrev pub a_lifted_limit_opens_for_both_and_a_refusal_falls_to_the_first : List Event
a_lifted_limit_opens_for_both_and_a_refusal_falls_to_the_first =
    awaited
    ++ sets_open 0
    ∷ open_start 2 0
    ∷ open_start 3 0
    ∷ house 3 1 Connect (answers.Fail (codes "down"))
    ∷ fell 3 2
    ∷ house 2 1 Connect answers.Done
    ∷ lend 2 2 3
    ∷ Replied 2 (replies.Driver (codes "down"))
    ∷ sent 2 2 3 3 (exec text) one_changed
    ∷ back 2
    ∷ Replied 3 told_one_changed
    ∷ []

-- A refused connection makes room for another opening.
abbrev pub a_refused_one_makes_room_for_another_opening : List Event
a_refused_one_makes_room_for_another_opening =
    limited
    ++ executes 1 1
    ∷ open_start 1 1
    ∷ executes 2 2
    ∷ Waits 2
    ∷ house 1 1 Connect (answers.Fail (codes "down"))
    ∷ fell 1 1
    ∷ open_start 2 0
    ∷ Replied 1 (replies.Driver (codes "down"))
    ∷ house 2 1 Connect answers.Done
    ∷ lend 2 2 2
    ∷ []

-- A bad connection makes room when it is gone, and the call that lost it waits after the other.
abbrev pub a_bad_one_makes_room_once_it_is_gone : List Event
a_bad_one_makes_room_once_it_is_gone =
    limited
    ++ executes 1 1
    ∷ open_start 1 1
    ∷ house 1 1 Connect answers.Done
    ∷ lend 1 2 1
    ∷ executes 2 2
    ∷ Waits 2
    ∷ sent 1 2 1 1 (exec text) answers.Bad
    ∷ close 1 causes.Bad
    ∷ Waits 1
    ∷ house 1 3 Shut answers.Done
    ∷ gone 1
    ∷ open_start 2 0
    ∷ house 2 1 Connect answers.Done
    ∷ lend 2 2 2
    ∷ sent 2 2 2 2 (exec text) one_changed
    ∷ back 2
    ∷ lend 2 3 1
    ∷ Replied 2 told_one_changed
    ∷ sent 2 3 1 1 (exec text) one_changed
    ∷ back 2
    ∷ Replied 1 told_one_changed
    ∷ []

-- A connection goes to a call that waits although none may be idle.
abbrev pub the_connection_goes_to_one_that_waits_though_none_may_be_idle : List Event
the_connection_goes_to_one_that_waits_though_none_may_be_idle =
    limited
    ++ sets_idle 0
    ∷ queries 1 1 (codes "r")
    ∷ open_start 1 1
    ∷ house 1 1 Connect answers.Done
    ∷ lend 1 2 1
    ∷ sent 1 2 1 1 query cursor
    ∷ Replied 1 (replies.Rows columns)
    ∷ executes 2 2
    ∷ Waits 2
    ∷ closes 1 3 (codes "r")
    ∷ sent 1 2 1 3 (CloseRows 1) answers.Done
    ∷ back 1
    ∷ lend 1 3 2
    ∷ Replied 3 replies.Ok
    ∷ sent 1 3 2 2 (exec text) one_changed
    ∷ close 1 causes.IdleFull
    ∷ Replied 2 told_one_changed
    ∷ []

-- A lowered limit closes a connection that comes back above it.
abbrev pub a_lowered_limit_closes_what_comes_back_above_it : List Event
a_lowered_limit_closes_what_comes_back_above_it =
    held_both
    ++ sets_open 1
    ∷ closes 1 3 (codes "q")
    ∷ sent 2 2 2 3 (CloseRows 1) answers.Done
    ∷ close 2 causes.OverLimit
    ∷ Replied 3 replies.Ok
    ∷ house 2 3 Shut answers.Done
    ∷ gone 2
    ∷ []

-- A lowered idle limit closes the connection that has been idle for longest.
abbrev pub fewer_idle_ones_the_longest_idle_closes : List Event
fewer_idle_ones_the_longest_idle_closes =
    left_idle
    ++ sets_idle 1
    ∷ close 2 causes.IdleFull
    ∷ house 2 3 Shut answers.Done
    ∷ gone 2
    ∷ []

-- A lowered open limit lowers the idle limit for good.
abbrev pub an_open_limit_lowers_the_idle_limit_for_good : List Event
an_open_limit_lowers_the_idle_limit_for_good =
    left_idle
    ++ sets_open 1
    ∷ close 2 causes.IdleFull
    ∷ sets_open 0
    ∷ house 2 3 Shut answers.Done
    ∷ gone 2
    ∷ asks_for_stats 1 5
    ∷ Replied 5 (stats 0 1 0 1 0 1)
    ∷ []

-- A call takes the idle connection that came back last.
abbrev pub a_call_takes_the_idle_one_that_came_back_last : List Event
a_call_takes_the_idle_one_that_came_back_last =
    left_idle
    ++ executes 1 5
    ∷ lend 1 3 5
    ∷ sent 1 3 5 5 (exec text) one_changed
    ∷ back 1
    ∷ Replied 5 told_one_changed
    ∷ []

-- A lifted limit opens connections for three calls that wait.
abbrev pub a_lifted_limit_opens_for_three : List Event
a_lifted_limit_opens_for_three =
    awaited
    ++ executes 4 4
    ∷ Waits 4
    ∷ sets_open 0
    ∷ open_start 2 0
    ∷ open_start 3 0
    ∷ open_start 4 0
    ∷ house 4 1 Connect answers.Done
    ∷ lend 4 2 2
    ∷ house 2 1 Connect answers.Done
    ∷ lend 2 2 3
    ∷ house 3 1 Connect answers.Done
    ∷ lend 3 2 4
    ∷ sent 2 2 3 3 (exec text) one_changed
    ∷ back 2
    ∷ Replied 3 told_one_changed
    ∷ []

-- The statistics count two waits and one connection in use.
abbrev pub the_statistics_count_waits : List Event
the_statistics_count_waits =
    awaited
    ++ asks_for_stats 1 4
    ∷ Replied 4 (stats 1 1 1 0 2 0)
    ∷ []
