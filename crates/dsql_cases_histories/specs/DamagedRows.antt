-- Histories that two calls on the same rows damage. Each is oldest first.
use Rattle.std.specs.Prelude.{List, [], ◌∷◌, ◌++◌, true, false, pos, codes}
use Rattle.dsql_history.specs.driver.declared.call.DriverCall.TheVariants.{Connect, Prepare, Query, Next, CloseRows}
use Rattle.dsql_history.specs.driver.declared.call.Input.TheVariants.{Handle}
use Rattle.dsql_history.specs.driver.declared.answer.DriverAnswer.TheVariants as answers
use Rattle.dsql_history.specs.pool.declared.moves.CloseCause.TheVariants as causes
use Rattle.dsql_history.specs.declared.event.Event.{Event}
use Rattle.dsql_history.specs.declared.event.Event.TheVariants.{Replied}
use Rattle.dsql_history.specs.declared.reply.Reply.TheVariants as replies
use Rattle.dsql_cases_histories.specs.CallWords.{run_preparing, rows_text, columns, cursor, row, queries, fetches, closes, open_start, lend, back, close, house, sent}
use Rattle.dsql_cases_histories.specs.BegunCalls.{queried, fetched_twice, fetched_and_closed, held_both}

-- A fetch sends a driver call after its reply.
abbrev pub a_fetch_sends_after_it_was_told : List Event
a_fetch_sends_after_it_was_told =
    fetched_and_closed
    ++ Replied 2 (replies.Truth false)
    ∷ sent 1 2 1 2 (Next 1) (row (codes "a"))
    ∷ []

-- A fetch sends a driver call after another call has closed the rows and its close was answered.
abbrev pub a_fetch_is_sent_after_the_rows_were_closed_by_an_answered_close : List Event
a_fetch_is_sent_after_the_rows_were_closed_by_an_answered_close =
    fetched_and_closed
    ++ sent 1 2 1 3 (CloseRows 1) answers.Done
    ∷ back 1
    ∷ Replied 3 replies.Ok
    ∷ sent 1 2 1 2 (Next 1) (row (codes "a"))
    ∷ []

-- Two calls fetch from rows and a third closes them. The second fetch sends after the first is answered.
abbrev pub two_fetches_and_a_close_after_the_first_answer_the_second_is_not_sent : List Event
two_fetches_and_a_close_after_the_first_answer_the_second_is_not_sent =
    fetched_twice
    ++ closes 3 4 (codes "r")
    ∷ sent 1 2 1 2 (Next 1) (row (codes "a"))
    ∷ Replied 2 (replies.Truth true)
    ∷ sent 1 2 1 3 (Next 1) (row (codes "b"))
    ∷ []

-- A fetch closes the rows that another call has closed.
abbrev pub a_fetch_whose_rows_another_closed_closes_them : List Event
a_fetch_whose_rows_another_closed_closes_them =
    fetched_and_closed
    ++ sent 1 2 1 2 (Next 1) answers.End
    ∷ sent 1 2 1 2 (CloseRows 1) answers.Done
    ∷ []

-- A bad connection closes only when the other call replies.
abbrev pub the_bad_connection_closes_only_as_the_other_is_told : List Event
the_bad_connection_closes_only_as_the_other_is_told =
    fetched_and_closed
    ++ sent 1 2 1 2 (Next 1) answers.Bad
    ∷ Replied 2 (replies.Truth false)
    ∷ close 1 causes.Bad
    ∷ Replied 3 replies.Ok
    ∷ []

-- A fetch sends twice.
abbrev pub a_fetch_sends_twice : List Event
a_fetch_sends_twice =
    queried
    ++ fetches 1 2 (codes "r")
    ∷ sent 1 2 1 2 (Next 1) (row (codes "a"))
    ∷ sent 1 2 1 2 (Next 1) (row (codes "b"))
    ∷ Replied 2 (replies.Truth true)
    ∷ []

-- A fetch sends between the two driver calls of the close.
abbrev pub a_fetch_between_two_calls_of_the_close : List Event
a_fetch_between_two_calls_of_the_close =
    run_preparing
    ∷ queries 1 1 (codes "r")
    ∷ open_start 1 1
    ∷ house 1 1 Connect answers.Done
    ∷ lend 1 2 1
    ∷ sent 1 2 1 1 (Prepare rows_text) (answers.Prepared 1 (pos 0))
    ∷ sent 1 2 1 1 (Query (Handle 1) []) cursor
    ∷ Replied 1 (replies.Rows columns)
    ∷ closes 1 2 (codes "r")
    ∷ sent 1 2 1 2 (CloseRows 1) answers.Done
    ∷ fetches 2 3 (codes "r")
    ∷ sent 1 2 1 3 (Next 1) answers.End
    ∷ []

-- Another call closes the rows that a fetch ended.
abbrev pub another_call_closes_the_rows_that_a_fetch_ended : List Event
another_call_closes_the_rows_that_a_fetch_ended =
    fetched_twice
    ++ sent 1 2 1 2 (Next 1) answers.End
    ∷ sent 1 2 1 3 (CloseRows 1) answers.Done
    ∷ []

-- A fetch of ended rows replies that there was a row.
abbrev pub a_fetch_of_ended_rows_is_told_that_there_was_a_row : List Event
a_fetch_of_ended_rows_is_told_that_there_was_a_row =
    fetched_and_closed
    ++ Replied 2 (replies.Truth true)
    ∷ []

-- A fetch is answered on the connection of other rows.
abbrev pub a_fetch_is_answered_on_the_connection_of_other_rows : List Event
a_fetch_is_answered_on_the_connection_of_other_rows =
    held_both
    ++ fetches 1 3 (codes "r")
    ∷ sent 2 2 2 3 (Next 1) (row (codes "a"))
    ∷ []

-- The layer closes rows that a call ended.
abbrev pub the_layer_closes_rows_that_a_call_ended : List Event
the_layer_closes_rows_that_a_call_ended =
    queried
    ++ closes 1 2 (codes "r")
    ∷ sent 1 2 1 0 (CloseRows 1) answers.Done
    ∷ []

-- A fetch sends again after its reply.
abbrev pub a_fetch_sends_again_after_its_reply : List Event
a_fetch_sends_again_after_its_reply =
    queried
    ++ fetches 1 2 (codes "r")
    ∷ sent 1 2 1 2 (Next 1) (row (codes "a"))
    ∷ Replied 2 (replies.Truth true)
    ∷ sent 1 2 1 2 (Next 1) (row (codes "b"))
    ∷ []
