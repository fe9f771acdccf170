-- Histories damaged in a wait, in a limit, or in what is reported of them. Each is oldest first.
use Rattle.std.specs.Prelude.{List, [], ◌∷◌, ◌++◌, codes}
use Rattle.dsql_history.specs.driver.declared.call.DriverCall.TheVariants.{Connect, CloseRows}
use Rattle.dsql_history.specs.driver.declared.answer.DriverAnswer.TheVariants as answers
use Rattle.dsql_history.specs.pool.declared.moves.CloseCause.TheVariants as causes
use Rattle.dsql_history.specs.declared.event.Event.{Event}
use Rattle.dsql_history.specs.declared.event.Event.TheVariants.{Waits, Replied}
use Rattle.dsql_history.specs.declared.reply.Reply.TheVariants as replies
use Rattle.dsql_cases_histories.specs.CallWords.{text, exec, query, columns, cursor, one_changed, told_one_changed, executes, queries, closes, asks_for_stats, sets_open, sets_idle, open_start, lend, back, close, fell, house, sent, stats}
use Rattle.dsql_cases_histories.specs.BegunCalls.{started, limited, held, awaited, held_both, left_idle}

-- A call that began to wait later is served first.
abbrev pub the_newer_one_is_served_first : List Event
the_newer_one_is_served_first =
    awaited
    ++ closes 1 4 (codes "r")
    ∷ sent 1 2 1 4 (CloseRows 1) answers.Done
    ∷ back 1
    ∷ lend 1 3 3
    ∷ Replied 4 replies.Ok
    ∷ []

-- A connection comes back, and none of the calls that wait gets it.
abbrev pub the_connection_comes_back_and_nobody_gets_it : List Event
the_connection_comes_back_and_nobody_gets_it =
    awaited
    ++ closes 1 4 (codes "r")
    ∷ sent 1 2 1 4 (CloseRows 1) answers.Done
    ∷ back 1
    ∷ Replied 4 replies.Ok
    ∷ []

-- A reply comes before the lending.
abbrev pub the_reply_comes_before_the_lending : List Event
the_reply_comes_before_the_lending =
    awaited
    ++ closes 1 4 (codes "r")
    ∷ sent 1 2 1 4 (CloseRows 1) answers.Done
    ∷ back 1
    ∷ Replied 4 replies.Ok
    ∷ lend 1 3 2
    ∷ []

-- A call waits although a connection is idle.
abbrev pub a_call_waits_though_one_is_idle : List Event
a_call_waits_though_one_is_idle =
    limited
    ++ executes 1 1
    ∷ open_start 1 1
    ∷ house 1 1 Connect answers.Done
    ∷ lend 1 2 1
    ∷ sent 1 2 1 1 (exec text) one_changed
    ∷ back 1
    ∷ Replied 1 told_one_changed
    ∷ executes 2 2
    ∷ Waits 2
    ∷ []

-- A call waits below the limit.
abbrev pub a_call_waits_below_the_limit : List Event
a_call_waits_below_the_limit =
    started
    ++ sets_open 2
    ∷ executes 1 1
    ∷ Waits 1
    ∷ []

-- A connection is opened above the limit.
abbrev pub one_is_opened_above_the_limit : List Event
one_is_opened_above_the_limit =
    held
    ++ executes 2 2
    ∷ open_start 2 2
    ∷ []

-- A call neither asks for a connection nor waits.
abbrev pub a_call_neither_asks_nor_waits : List Event
a_call_neither_asks_nor_waits =
    held
    ++ executes 2 2
    ∷ []

-- A call begins to wait after another call entered.
abbrev pub a_call_waits_after_another_entered : List Event
a_call_waits_after_another_entered =
    held
    ++ executes 2 2
    ∷ executes 3 3
    ∷ Waits 3
    ∷ Waits 2
    ∷ []

-- A raised limit opens a connection for nobody.
abbrev pub a_raised_limit_opens_for_nobody : List Event
a_raised_limit_opens_for_nobody =
    awaited
    ++ sets_open 2
    ∷ []

-- A raised limit opens two connections.
abbrev pub a_raised_limit_opens_for_two : List Event
a_raised_limit_opens_for_two =
    awaited
    ++ sets_open 2
    ∷ open_start 2 0
    ∷ open_start 3 0
    ∷ []

-- An opening for a call that waits names that call.
abbrev pub an_opening_names_a_call_that_waits : List Event
an_opening_names_a_call_that_waits =
    awaited
    ++ sets_open 2
    ∷ open_start 2 2
    ∷ []

-- The refusal of a connection falls to the call that waits.
abbrev pub the_refusal_falls_to_the_one_that_waits : List Event
the_refusal_falls_to_the_one_that_waits =
    limited
    ++ executes 1 1
    ∷ open_start 1 1
    ∷ executes 2 2
    ∷ Waits 2
    ∷ house 1 1 Connect (answers.Fail (codes "down"))
    ∷ fell 1 2
    ∷ []

-- A bad connection makes room before it is gone.
abbrev pub a_bad_one_makes_room_before_it_is_gone : List Event
a_bad_one_makes_room_before_it_is_gone =
    limited
    ++ executes 1 1
    ∷ open_start 1 1
    ∷ house 1 1 Connect answers.Done
    ∷ lend 1 2 1
    ∷ executes 2 2
    ∷ Waits 2
    ∷ sent 1 2 1 1 (exec text) answers.Bad
    ∷ close 1 causes.Bad
    ∷ open_start 2 0
    ∷ []

-- A call replies in the middle of a step.
abbrev pub a_call_that_is_told_replies_in_the_middle_of_a_step : List Event
a_call_that_is_told_replies_in_the_middle_of_a_step =
    limited
    ++ executes 1 1
    ∷ open_start 1 1
    ∷ executes 2 2
    ∷ Waits 2
    ∷ house 1 1 Connect (answers.Fail (codes "down"))
    ∷ fell 1 1
    ∷ Replied 1 (replies.Driver (codes "down"))
    ∷ open_start 2 0
    ∷ []

-- A lowered limit keeps a connection that comes back above it.
abbrev pub a_lowered_limit_keeps_what_comes_back_above_it : List Event
a_lowered_limit_keeps_what_comes_back_above_it =
    held_both
    ++ sets_open 1
    ∷ closes 1 3 (codes "q")
    ∷ sent 2 2 2 3 (CloseRows 1) answers.Done
    ∷ back 2
    ∷ Replied 3 replies.Ok
    ∷ []

-- A lowered idle limit closes the connection that became idle last.
abbrev pub fewer_idle_ones_the_newest_closes : List Event
fewer_idle_ones_the_newest_closes =
    left_idle
    ++ sets_idle 1
    ∷ close 1 causes.IdleFull
    ∷ []

-- A lowered idle limit closes no connection.
abbrev pub fewer_idle_ones_none_closes : List Event
fewer_idle_ones_none_closes =
    left_idle
    ++ sets_idle 1
    ∷ []

-- The statistics count one idle connection too few.
abbrev pub the_statistics_count_one_too_few : List Event
the_statistics_count_one_too_few =
    left_idle
    ++ asks_for_stats 1 5
    ∷ Replied 5 (stats 0 2 0 1 0 0)
    ∷ []

-- The reply with the statistics comes a step later.
abbrev pub the_statistics_come_later : List Event
the_statistics_come_later =
    left_idle
    ++ asks_for_stats 1 5
    ∷ sets_open 3
    ∷ Replied 5 (stats 3 2 0 2 0 0)
    ∷ []

-- A call takes the connection that has been idle for longest.
abbrev pub a_call_takes_the_longest_idle_one : List Event
a_call_takes_the_longest_idle_one =
    left_idle
    ++ executes 1 5
    ∷ lend 2 3 5
    ∷ []

-- A connection is opened for nobody.
abbrev pub one_is_opened_for_nobody : List Event
one_is_opened_for_nobody =
    started
    ++ open_start 1 0
    ∷ []

-- A connection closes as one too many although a call waits.
abbrev pub a_connection_closes_as_full_though_one_waits : List Event
a_connection_closes_as_full_though_one_waits =
    limited
    ++ sets_idle 0
    ∷ queries 1 1 (codes "r")
    ∷ open_start 1 1
    ∷ house 1 1 Connect answers.Done
    ∷ lend 1 2 1
    ∷ sent 1 2 1 1 query cursor
    ∷ Replied 1 (replies.Rows columns)
    ∷ executes 2 2
    ∷ Waits 2
    ∷ closes 1 3 (codes "r")
    ∷ sent 1 2 1 3 (CloseRows 1) answers.Done
    ∷ close 1 causes.IdleFull
    ∷ []

-- A connection above the limit closes as one idle connection too many.
abbrev pub a_connection_above_the_limit_closes_as_full : List Event
a_connection_above_the_limit_closes_as_full =
    held_both
    ++ sets_open 1
    ∷ closes 1 3 (codes "q")
    ∷ sent 2 2 2 3 (CloseRows 1) answers.Done
    ∷ close 2 causes.IdleFull
    ∷ []

-- A call waits a second time.
abbrev pub a_call_waits_twice : List Event
a_call_waits_twice =
    awaited
    ++ Waits 3
    ∷ []

-- A lifted limit opens a connection for one of two calls that wait.
abbrev pub a_lifted_limit_opens_for_one_of_two : List Event
a_lifted_limit_opens_for_one_of_two =
    awaited
    ++ sets_open 0
    ∷ open_start 2 0
    ∷ asks_for_stats 1 4
    ∷ []

-- A limit is set before the last setting is carried out.
abbrev pub a_setting_is_followed_by_another : List Event
a_setting_is_followed_by_another =
    left_idle
    ++ sets_idle 1
    ∷ sets_idle 0
    ∷ []
