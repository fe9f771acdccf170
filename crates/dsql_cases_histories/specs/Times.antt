-- Legal histories in which time passes. Each is oldest first.
use Rattle.std.specs.Prelude.{List, [], ◌∷◌, ◌++◌, ℕ, codes}
use Rattle.dsql_history.specs.driver.declared.call.DriverCall.TheVariants.{Connect, CloseRows, Shut}
use Rattle.dsql_history.specs.driver.declared.answer.DriverAnswer.TheVariants as answers
use Rattle.dsql_history.specs.pool.declared.moves.CloseCause.TheVariants.{Lifetime, IdleTime}
use Rattle.dsql_history.specs.declared.event.Event.{Event}
use Rattle.dsql_history.specs.declared.event.Event.TheVariants.{Waits, Replied}
use Rattle.dsql_history.specs.declared.reply.Reply.TheVariants as replies
use Rattle.dsql_cases_histories.specs.CallWords.{text, exec, query, columns, cursor, one_changed, told_one_changed, executes, queries, closes, asks_for_stats, sets_open, sets_life, sets_idle_time, ticks, open_start, lend, back, close, gone, house, sent, stats_of_times, stats_of_a_wait}
use Rattle.dsql_cases_histories.specs.BegunCalls.{started}

-- Returns the events in which connection c is opened for client k's call n, an exec, and comes back.
abbrev pub serves : ℕ → ℕ → ℕ → List Event
serves k n c =
    executes k n
    ∷ open_start c n
    ∷ house c 1 Connect answers.Done
    ∷ lend c 2 n
    ∷ sent c 2 n n (exec text) one_changed
    ∷ back c
    ∷ Replied n told_one_changed
    ∷ []

-- Returns the events after which the rows of a query hold connection 1.
abbrev pub holds_rows : List Event
holds_rows =
    queries 1 1 (codes "r")
    ∷ open_start 1 1
    ∷ house 1 1 Connect answers.Done
    ∷ lend 1 2 1
    ∷ sent 1 2 1 1 query cursor
    ∷ Replied 1 (replies.Rows columns)
    ∷ []

-- A connection may live a hundred nanoseconds, and closes at the next one.
abbrev pub an_idle_one_has_lived_too_long : List Event
an_idle_one_has_lived_too_long =
    started
    ++ sets_life 100
    ∷ serves 1 1 1
    ++ ticks 100
    ∷ ticks 101
    ∷ close 1 Lifetime
    ∷ house 1 3 Shut answers.Done
    ∷ gone 1
    ∷ asks_for_stats 1 2
    ∷ Replied 2 (stats_of_times 0 1)
    ∷ []

-- A connection was opened and became idle at the moment 5, and may be idle for 10 nanoseconds.
abbrev pub one_has_been_idle_too_long : List Event
one_has_been_idle_too_long =
    started
    ++ sets_idle_time 10
    ∷ ticks 5
    ∷ serves 1 1 1
    ++ ticks 15
    ∷ ticks 16
    ∷ close 1 IdleTime
    ∷ house 1 3 Shut answers.Done
    ∷ gone 1
    ∷ asks_for_stats 1 2
    ∷ Replied 2 (stats_of_times 1 0)
    ∷ []

-- A connection outlives both times at one moment, and closes as idle for too long.
abbrev pub both_times_are_over_at_once : List Event
both_times_are_over_at_once =
    started
    ++ sets_life 10
    ∷ sets_idle_time 10
    ∷ serves 1 1 1
    ++ ticks 11
    ∷ close 1 IdleTime
    ∷ []

-- A lent connection has lived too long, and closes when it comes back.
abbrev pub a_lent_one_has_lived_too_long : List Event
a_lent_one_has_lived_too_long =
    started
    ++ sets_life 10
    ∷ holds_rows
    ++ ticks 11
    ∷ closes 1 2 (codes "r")
    ∷ sent 1 2 1 2 (CloseRows 1) answers.Done
    ∷ close 1 Lifetime
    ∷ Replied 2 replies.Ok
    ∷ house 1 3 Shut answers.Done
    ∷ gone 1
    ∷ []

-- A lifetime that is over already is set.
abbrev pub a_time_that_is_over_is_set : List Event
a_time_that_is_over_is_set =
    started
    ++ serves 1 1 1
    ++ ticks 50
    ∷ sets_life 50
    ∷ sets_life 49
    ∷ close 1 Lifetime
    ∷ []

-- Two connections have been idle for too long. Connection 2 came back first and closes first.
abbrev pub two_have_been_idle_too_long : List Event
two_have_been_idle_too_long =
    started
    ++ sets_idle_time 10
    ∷ holds_rows
    ++ serves 2 2 2
    ++ ticks 3
    ∷ closes 1 3 (codes "r")
    ∷ sent 1 2 1 3 (CloseRows 1) answers.Done
    ∷ back 1
    ∷ Replied 3 replies.Ok
    ∷ ticks 14
    ∷ close 2 IdleTime
    ∷ close 1 IdleTime
    ∷ []

-- A time of 0 sets no limit, and time may stand still.
abbrev pub no_time_is_over : List Event
no_time_is_over =
    started
    ++ sets_life 0
    ∷ sets_idle_time 0
    ∷ serves 1 1 1
    ++ ticks 1000
    ∷ ticks 1000
    ∷ []

-- At the last moment of all, a lifetime that begins isn't over, and one that began at the first moment is.
abbrev pub the_last_moment : List Event
the_last_moment =
    started
    ++ sets_life 9223372036854775807
    ∷ serves 1 1 1
    ++ ticks 18446744073709551615
    ∷ close 1 Lifetime
    ∷ house 1 3 Shut answers.Done
    ∷ gone 1
    ∷ serves 1 2 2
    ++ ticks 18446744073709551615
    ∷ []

-- A call waits until the moment 50.
abbrev pub a_wait_ends_at_a_later_moment : List Event
a_wait_ends_at_a_later_moment =
    started
    ++ sets_open 1
    ∷ holds_rows
    ++ executes 2 2
    ∷ Waits 2
    ∷ ticks 50
    ∷ closes 1 3 (codes "r")
    ∷ sent 1 2 1 3 (CloseRows 1) answers.Done
    ∷ back 1
    ∷ lend 1 3 2
    ∷ Replied 3 replies.Ok
    ∷ sent 1 3 2 2 (exec text) one_changed
    ∷ back 1
    ∷ Replied 2 told_one_changed
    ∷ asks_for_stats 1 4
    ∷ Replied 4 (stats_of_a_wait 50)
    ∷ []
