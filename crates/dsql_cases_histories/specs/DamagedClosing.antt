-- Histories damaged at the close of the database or at the end of the run. Each is oldest first.
use Rattle.std.specs.Prelude.{List, [], ◌∷◌, ◌++◌, codes}
use Rattle.dsql_history.specs.driver.declared.call.DriverCall.TheVariants.{Connect, CloseRows}
use Rattle.dsql_history.specs.driver.declared.answer.DriverAnswer.TheVariants as answers
use Rattle.dsql_history.specs.pool.declared.moves.CloseCause.TheVariants as causes
use Rattle.dsql_history.specs.declared.event.Event.{Event}
use Rattle.dsql_history.specs.declared.event.Event.TheVariants.{Waits, Replied, Ended}
use Rattle.dsql_history.specs.declared.reply.Reply.TheVariants as replies
use Rattle.dsql_history.specs.declared.reply.DbEnd.TheVariants as ends
use Rattle.dsql_cases_histories.specs.CallWords.{too_great, executes, executes_with, fetches, closes, closes_db, sets_open, open_start, lend, close, house, sent}
use Rattle.dsql_cases_histories.specs.BegunCalls.{started, queried, left_idle}

-- A close of the database replies before it closes an idle connection.
abbrev pub a_close_replies_before_it_closes_an_idle_one : List Event
a_close_replies_before_it_closes_an_idle_one =
    left_idle
    ++ closes_db 1 5
    ∷ Replied 5 replies.Ok
    ∷ close 2 causes.DbClosed
    ∷ close 1 causes.DbClosed
    ∷ []

-- A connection that nobody wants is lent after it is opened.
abbrev pub an_opening_that_nobody_wants_any_more_is_lent : List Event
an_opening_that_nobody_wants_any_more_is_lent =
    started
    ++ executes 1 1
    ∷ open_start 1 1
    ∷ closes_db 2 2
    ∷ Replied 2 replies.Ok
    ∷ house 1 1 Connect answers.Done
    ∷ lend 1 2 1
    ∷ []

-- A call that is under way is refused after the close of the database.
abbrev pub what_is_under_way_is_refused_after_a_close : List Event
what_is_under_way_is_refused_after_a_close =
    started
    ++ executes 1 1
    ∷ open_start 1 1
    ∷ house 1 1 Connect answers.Done
    ∷ lend 1 2 1
    ∷ closes_db 2 2
    ∷ Replied 2 replies.Ok
    ∷ Replied 1 (replies.DbClosed ends.Close)
    ∷ []

-- The run ends while a connection is being opened.
abbrev pub the_run_ends_while_one_is_being_opened : List Event
the_run_ends_while_one_is_being_opened =
    started
    ++ executes 1 1
    ∷ open_start 1 1
    ∷ Ended
    ∷ []

-- The run ends while a fetch is under way.
abbrev pub the_run_ends_while_a_fetch_is_under_way : List Event
the_run_ends_while_a_fetch_is_under_way =
    queried
    ++ fetches 1 2 (codes "r")
    ∷ Ended
    ∷ []

-- After the end of the run, a call replies with a fault of its argument.
abbrev pub after_the_end_an_argument_is_looked_at_first : List Event
after_the_end_an_argument_is_looked_at_first =
    queried
    ++ Ended
    ∷ executes_with 1 2 too_great
    ∷ Replied 2 (replies.HighBit 9223372036854775808)
    ∷ []

-- After the end of the run, a call waits.
abbrev pub after_the_end_a_call_waits : List Event
after_the_end_a_call_waits =
    queried
    ++ sets_open 1
    ∷ Ended
    ∷ executes 1 2
    ∷ Waits 2
    ∷ []

-- After the end of the run, a close of rows sends the driver call that the layer owes.
abbrev pub a_close_after_the_end_sends_what_the_layer_owes : List Event
a_close_after_the_end_sends_what_the_layer_owes =
    queried
    ++ Ended
    ∷ closes 1 2 (codes "r")
    ∷ sent 1 2 1 2 (CloseRows 1) answers.Done
    ∷ close 1 causes.DbClosed
    ∷ Replied 2 replies.Ok
    ∷ []

-- An exec replies that the run has ended, although the database was closed before.
abbrev pub the_first_close_counts : List Event
the_first_close_counts =
    queried
    ++ closes_db 2 2
    ∷ Replied 2 replies.Ok
    ∷ Ended
    ∷ executes 1 3
    ∷ Replied 3 (replies.DbClosed ends.EndOfRun)
    ∷ []
