-- Histories in which two calls work on the same rows. Each is oldest first.
use Rattle.std.specs.Prelude.{List, [], ◌∷◌, ◌++◌, true, false, codes}
use Rattle.dsql_history.specs.driver.declared.call.DriverCall.TheVariants.{Next, CloseRows}
use Rattle.dsql_history.specs.driver.declared.answer.DriverAnswer.TheVariants as answers
use Rattle.dsql_history.specs.rows.declared.end.RowsOver.TheVariants as overs
use Rattle.dsql_history.specs.pool.declared.moves.CloseCause.TheVariants as causes
use Rattle.dsql_history.specs.declared.event.Event.{Event}
use Rattle.dsql_history.specs.declared.event.Event.TheVariants.{Replied}
use Rattle.dsql_history.specs.declared.reply.Reply.TheVariants as replies
use Rattle.dsql_cases_histories.specs.CallWords.{row, closes, scans, back, close, sent}
use Rattle.dsql_cases_histories.specs.BegunCalls.{queried, fetched_twice, fetched_and_closed}

-- Two calls fetch, and each gets a row.
abbrev pub two_fetches_each_given_a_row : List Event
two_fetches_each_given_a_row =
    fetched_twice
    ++ sent 1 2 1 2 (Next 1) (row (codes "a"))
    ∷ Replied 2 (replies.Truth true)
    ∷ sent 1 2 1 3 (Next 1) (row (codes "b"))
    ∷ Replied 3 (replies.Truth true)
    ∷ []

-- Two calls fetch, and the second is answered first.
abbrev pub the_second_of_two_fetches_is_answered_first : List Event
the_second_of_two_fetches_is_answered_first =
    fetched_twice
    ++ sent 1 2 1 3 (Next 1) (row (codes "a"))
    ∷ Replied 3 (replies.Truth true)
    ∷ sent 1 2 1 2 (Next 1) (row (codes "b"))
    ∷ Replied 2 (replies.Truth true)
    ∷ []

-- A row comes after another call has closed the rows.
abbrev pub a_row_that_comes_after_another_has_closed_the_rows : List Event
a_row_that_comes_after_another_has_closed_the_rows =
    fetched_and_closed
    ++ sent 1 2 1 2 (Next 1) (row (codes "a"))
    ∷ Replied 2 (replies.Truth true)
    ∷ sent 1 2 1 3 (CloseRows 1) answers.Done
    ∷ back 1
    ∷ Replied 3 replies.Ok
    ∷ []

-- The answer that no row is left comes after another call has closed the rows.
abbrev pub no_row_comes_after_another_has_closed_the_rows : List Event
no_row_comes_after_another_has_closed_the_rows =
    fetched_and_closed
    ++ sent 1 2 1 2 (Next 1) answers.End
    ∷ Replied 2 (replies.Truth false)
    ∷ sent 1 2 1 3 (CloseRows 1) answers.Done
    ∷ back 1
    ∷ Replied 3 replies.Ok
    ∷ []

-- A failure comes after another call has closed the rows.
abbrev pub a_failure_comes_after_another_has_closed_the_rows : List Event
a_failure_comes_after_another_has_closed_the_rows =
    fetched_and_closed
    ++ sent 1 2 1 2 (Next 1) (answers.Fail (codes "no"))
    ∷ Replied 2 (replies.Truth false)
    ∷ sent 1 2 1 3 (CloseRows 1) answers.Done
    ∷ back 1
    ∷ Replied 3 replies.Ok
    ∷ []

-- A bad answer comes after another call has closed the rows.
abbrev pub a_bad_answer_comes_after_another_has_closed_the_rows : List Event
a_bad_answer_comes_after_another_has_closed_the_rows =
    fetched_and_closed
    ++ sent 1 2 1 2 (Next 1) answers.Bad
    ∷ close 1 causes.Bad
    ∷ Replied 2 (replies.Truth false)
    ∷ Replied 3 replies.Ok
    ∷ []

-- A fetch that sent nothing replies that there is no row, because the rows are closed.
abbrev pub a_fetch_that_was_not_sent_is_told_that_the_rows_are_closed : List Event
a_fetch_that_was_not_sent_is_told_that_the_rows_are_closed =
    fetched_and_closed
    ++ Replied 2 (replies.Truth false)
    ∷ sent 1 2 1 3 (CloseRows 1) answers.Done
    ∷ back 1
    ∷ Replied 3 replies.Ok
    ∷ []

-- A fetch that sent nothing replies so after the rows were closed.
abbrev pub it_is_told_so_while_they_are_being_closed : List Event
it_is_told_so_while_they_are_being_closed =
    fetched_and_closed
    ++ sent 1 2 1 3 (CloseRows 1) answers.Done
    ∷ back 1
    ∷ Replied 3 replies.Ok
    ∷ Replied 2 (replies.Truth false)
    ∷ []

-- A scan follows a row that came too late.
abbrev pub a_scan_after_a_row_that_came_too_late : List Event
a_scan_after_a_row_that_came_too_late =
    fetched_and_closed
    ++ sent 1 2 1 2 (Next 1) (row (codes "a"))
    ∷ Replied 2 (replies.Truth true)
    ∷ scans 1 4 (codes "r")
    ∷ Replied 4 (replies.RowsClosed overs.Close)
    ∷ []

-- A fetch that ends the rows closes them, and another fetch replies meanwhile.
abbrev pub a_fetch_that_ends_the_rows_closes_them_and_another_is_told_meanwhile : List Event
a_fetch_that_ends_the_rows_closes_them_and_another_is_told_meanwhile =
    fetched_twice
    ++ sent 1 2 1 2 (Next 1) answers.End
    ∷ Replied 3 (replies.Truth false)
    ∷ sent 1 2 1 2 (CloseRows 1) answers.Done
    ∷ back 1
    ∷ Replied 2 (replies.Truth false)
    ∷ []

-- A second call closes rows that are being closed.
abbrev pub a_second_close_of_rows_that_are_being_closed : List Event
a_second_close_of_rows_that_are_being_closed =
    queried
    ++ closes 1 2 (codes "r")
    ∷ closes 2 3 (codes "r")
    ∷ Replied 3 replies.Ok
    ∷ sent 1 2 1 2 (CloseRows 1) answers.Done
    ∷ back 1
    ∷ Replied 2 replies.Ok
    ∷ []
