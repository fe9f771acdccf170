-- Refused histories in which time passes. Each is oldest first.
use Rattle.std.specs.Prelude.{List, [], ◌∷◌, ◌++◌, codes}
use Rattle.dsql_history.specs.driver.declared.call.DriverCall.TheVariants.{CloseRows}
use Rattle.dsql_history.specs.driver.declared.answer.DriverAnswer.TheVariants as answers
use Rattle.dsql_history.specs.pool.declared.moves.CloseCause.TheVariants.{Lifetime, IdleTime}
use Rattle.dsql_history.specs.declared.event.Event.{Event}
use Rattle.dsql_history.specs.declared.event.Event.TheVariants.{Waits, Replied}
use Rattle.dsql_history.specs.declared.reply.Reply.TheVariants as replies
use Rattle.dsql_cases_histories.specs.CallWords.{text, exec, one_changed, told_one_changed, executes, closes, asks_for_stats, sets_open, sets_life, sets_idle_time, ticks, lend, back, close, sent, stats_of_a_wait}
use Rattle.dsql_cases_histories.specs.BegunCalls.{started}
use Rattle.dsql_cases_histories.specs.Times.{serves, holds_rows}

abbrev pub time_goes_back : List Event
time_goes_back =
    started
    ++ ticks 5
    ∷ ticks 4
    ∷ []

-- A connection that has lived too long is lent.
abbrev pub one_past_its_time_is_kept : List Event
one_past_its_time_is_kept =
    started
    ++ sets_life 100
    ∷ serves 1 1 1
    ++ ticks 101
    ∷ executes 1 2
    ∷ lend 1 3 2
    ∷ []

-- A connection closes at the moment 100, although it may live a hundred nanoseconds.
abbrev pub one_closes_before_its_time : List Event
one_closes_before_its_time =
    started
    ++ sets_life 100
    ∷ serves 1 1 1
    ++ ticks 100
    ∷ close 1 Lifetime
    ∷ []

abbrev pub idle_time_is_told_for_lifetime : List Event
idle_time_is_told_for_lifetime =
    started
    ++ sets_life 10
    ∷ sets_idle_time 20
    ∷ serves 1 1 1
    ++ ticks 11
    ∷ close 1 IdleTime
    ∷ []

-- A connection that rows hold closes at the moment its lifetime is over.
abbrev pub a_lent_one_closes_at_a_moment : List Event
a_lent_one_closes_at_a_moment =
    started
    ++ sets_life 10
    ∷ holds_rows
    ++ ticks 11
    ∷ close 1 Lifetime
    ∷ []

abbrev pub the_newest_idle_closes_first : List Event
the_newest_idle_closes_first =
    started
    ++ sets_idle_time 10
    ∷ holds_rows
    ++ serves 2 2 2
    ++ ticks 3
    ∷ closes 1 3 (codes "r")
    ∷ sent 1 2 1 3 (CloseRows 1) answers.Done
    ∷ back 1
    ∷ Replied 3 replies.Ok
    ∷ ticks 14
    ∷ close 1 IdleTime
    ∷ []

-- A wait ended at the moment 50, and the statistics count it up to the moment 60.
abbrev pub a_wait_is_counted_to_another_moment : List Event
a_wait_is_counted_to_another_moment =
    started
    ++ sets_open 1
    ∷ holds_rows
    ++ executes 2 2
    ∷ Waits 2
    ∷ ticks 50
    ∷ closes 1 3 (codes "r")
    ∷ sent 1 2 1 3 (CloseRows 1) answers.Done
    ∷ back 1
    ∷ lend 1 3 2
    ∷ Replied 3 replies.Ok
    ∷ ticks 60
    ∷ sent 1 3 2 2 (exec text) one_changed
    ∷ back 1
    ∷ Replied 2 told_one_changed
    ∷ asks_for_stats 1 4
    ∷ Replied 4 (stats_of_a_wait 60)
    ∷ []
