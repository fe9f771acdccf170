-- Histories damaged at a further try. Each is oldest first.
use Rattle.std.specs.Prelude.{List, [], ◌∷◌, ◌++◌, codes}
use Rattle.dsql_history.specs.driver.declared.call.DriverCall.TheVariants.{Connect}
use Rattle.dsql_history.specs.driver.declared.answer.DriverAnswer.TheVariants as answers
use Rattle.dsql_history.specs.declared.event.Event.{Event}
use Rattle.dsql_history.specs.declared.event.Event.TheVariants.{Replied}
use Rattle.dsql_history.specs.declared.reply.Reply.TheVariants as replies
use Rattle.dsql_cases_histories.specs.CallWords.{run, exec, text, executes, closes_db, open_start, lend, fell, house, sent}
use Rattle.dsql_cases_histories.specs.Tries.{once_bad, thrice_bad, refused_once, refused_twice, three_idle}

-- A history in which an exec is lent its first connection.
abbrev pub lent_once : List Event
lent_once =
    run
    ∷ executes 1 1
    ∷ open_start 1 1
    ∷ house 1 1 Connect answers.Done
    ∷ lend 1 2 1
    ∷ []

abbrev pub a_fourth_try : List Event
a_fourth_try = thrice_bad ++ open_start 4 1 ∷ []

abbrev pub the_third_try_takes_an_idle_one : List Event
the_third_try_takes_an_idle_one = three_idle ++ lend 1 3 4 ∷ []

abbrev pub the_next_try_comes_before_the_close : List Event
the_next_try_comes_before_the_close =
    lent_once
    ++ sent 1 2 1 1 (exec text) answers.Bad
    ∷ open_start 2 1
    ∷ []

abbrev pub a_text_that_failed_is_sent_again : List Event
a_text_that_failed_is_sent_again =
    lent_once
    ++ sent 1 2 1 1 (exec text) (answers.Fail (codes "no"))
    ∷ sent 1 2 1 1 (exec text) answers.Done
    ∷ []

abbrev pub a_failure_is_tried_again : List Event
a_failure_is_tried_again =
    run
    ∷ executes 1 1
    ∷ open_start 1 1
    ∷ house 1 1 Connect (answers.Fail (codes "no"))
    ∷ fell 1 1
    ∷ open_start 2 1
    ∷ []

abbrev pub the_first_bad_one_is_told : List Event
the_first_bad_one_is_told = once_bad ++ Replied 1 (replies.BadConn 1) ∷ []

abbrev pub a_third_bad_one_is_told_as_the_second : List Event
a_third_bad_one_is_told_as_the_second = thrice_bad ++ Replied 1 (replies.BadConn 2) ∷ []

abbrev pub another_enters_before_the_next_try : List Event
another_enters_before_the_next_try = once_bad ++ executes 2 2 ∷ []

abbrev pub a_refused_call_gives_up : List Event
a_refused_call_gives_up = refused_twice ++ Replied 1 (replies.BadConn 2) ∷ []

abbrev pub a_refused_call_asks_a_closed_database : List Event
a_refused_call_asks_a_closed_database =
    refused_once
    ++ closes_db 2 2
    ∷ Replied 2 replies.Ok
    ∷ open_start 2 1
    ∷ []
