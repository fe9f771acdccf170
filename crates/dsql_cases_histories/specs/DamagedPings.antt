-- Histories damaged at a ping. Each is oldest first.
use Rattle.std.specs.Prelude.{List, [], ◌∷◌, ◌++◌, codes}
use Rattle.dsql_history.specs.driver.declared.call.DriverCall.TheVariants.{Valid, Ping}
use Rattle.dsql_history.specs.driver.declared.answer.DriverAnswer.TheVariants as answers
use Rattle.dsql_history.specs.pool.declared.moves.CloseCause.TheVariants as causes
use Rattle.dsql_history.specs.declared.event.Event.{Event}
use Rattle.dsql_history.specs.declared.event.Event.TheVariants.{Replied}
use Rattle.dsql_history.specs.declared.reply.Reply.TheVariants as replies
use Rattle.dsql_cases_histories.specs.CallWords.{executes, open_start, back, close, sent}
use Rattle.dsql_cases_histories.specs.Pings.{lent_to_a_ping, lent_to_a_ping_in_vain, rests_with_a_connection, executed_before}

-- A `Ping` is sent twice.
abbrev pub a_ping_is_sent_twice : List Event
a_ping_is_sent_twice =
    lent_to_a_ping
    ++ sent 1 2 1 1 Ping answers.Done
    ∷ sent 1 2 1 1 Ping answers.Done
    ∷ []

-- A driver can ping, and the connection is tested before the `Ping`.
abbrev pub a_connection_is_tested_before_its_ping : List Event
a_connection_is_tested_before_its_ping =
    lent_to_a_ping
    ++ sent 1 2 1 1 Valid answers.Done
    ∷ []

-- A driver can neither ping nor test, and the call replies while it still has its connection.
abbrev pub a_ping_replies_with_its_connection : List Event
a_ping_replies_with_its_connection =
    rests_with_a_connection
    ++ Replied 1 replies.Ok
    ∷ []

-- A driver can't test, and the connection is tested.
abbrev pub a_resting_connection_is_tested : List Event
a_resting_connection_is_tested =
    rests_with_a_connection
    ++ sent 1 2 1 1 Valid answers.Done
    ∷ []

-- A ping that rests replies with a failure that no driver answered.
abbrev pub a_resting_ping_is_told_a_failure : List Event
a_resting_ping_is_told_a_failure =
    rests_with_a_connection
    ++ back 1
    ∷ Replied 1 (replies.Driver (codes "no"))
    ∷ []

-- A good connection with which a ping rests is closed.
abbrev pub a_resting_connection_is_closed : List Event
a_resting_connection_is_closed =
    rests_with_a_connection
    ++ close 1 causes.Bad
    ∷ []

-- A used connection is pinged before it is reset.
abbrev pub a_used_connection_is_pinged_at_once : List Event
a_used_connection_is_pinged_at_once =
    executed_before
    ++ sent 1 3 2 2 Ping answers.Done
    ∷ []

-- A driver can ping, and the call replies before the `Ping` is answered.
abbrev pub a_ping_replies_before_its_answer : List Event
a_ping_replies_before_its_answer =
    lent_to_a_ping
    ++ Replied 1 replies.Ok
    ∷ []

-- A driver can't ping, and is sent a `Ping`.
abbrev pub a_ping_is_sent_in_vain : List Event
a_ping_is_sent_in_vain =
    lent_to_a_ping_in_vain
    ++ sent 1 2 1 1 Ping answers.Done
    ∷ []

-- A ping that failed replies with `Ok`.
abbrev pub a_ping_that_failed_is_told_as_well : List Event
a_ping_that_failed_is_told_as_well =
    lent_to_a_ping
    ++ sent 1 2 1 1 Ping (answers.Fail (codes "no"))
    ∷ sent 1 2 1 1 Valid answers.Done
    ∷ back 1
    ∷ Replied 1 replies.Ok
    ∷ []

-- A driver can't ping, and the call replies before its connection is back.
abbrev pub a_ping_replies_before_its_connection_is_back : List Event
a_ping_replies_before_its_connection_is_back =
    lent_to_a_ping_in_vain
    ++ sent 1 2 1 1 Valid answers.Done
    ∷ Replied 1 replies.Ok
    ∷ []

-- A driver can't ping, and the reply comes a step later than the return of the connection.
abbrev pub a_ping_replies_a_step_later : List Event
a_ping_replies_a_step_later =
    lent_to_a_ping_in_vain
    ++ sent 1 2 1 1 Valid answers.Done
    ∷ back 1
    ∷ executes 2 2
    ∷ Replied 1 replies.Ok
    ∷ []

-- A driver can't ping, and the call replies with a failure that no driver answered.
abbrev pub a_ping_is_told_a_failure_of_its_own : List Event
a_ping_is_told_a_failure_of_its_own =
    lent_to_a_ping_in_vain
    ++ sent 1 2 1 1 Valid answers.Done
    ∷ back 1
    ∷ Replied 1 (replies.Driver (codes "no"))
    ∷ []

-- A ping asks again after its connection was bad.
abbrev pub a_ping_asks_again : List Event
a_ping_asks_again =
    lent_to_a_ping
    ++ sent 1 2 1 1 Ping answers.Bad
    ∷ close 1 causes.Bad
    ∷ open_start 2 1
    ∷ []
