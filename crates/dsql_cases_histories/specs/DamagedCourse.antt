-- Histories damaged in their course, in the numbers of calls, or in the life of a connection. Each is oldest
-- first.
use Rattle.std.specs.Prelude.{List, [], ◌∷◌, ◌++◌, codes}
use Rattle.dsql_history.specs.driver.declared.call.DriverCall.TheVariants.{Connect, Next}
use Rattle.dsql_history.specs.driver.declared.answer.DriverAnswer.TheVariants as answers
use Rattle.dsql_history.specs.pool.declared.moves.CloseCause.TheVariants as causes
use Rattle.dsql_history.specs.works.Caps.{all_caps}
use Rattle.dsql_history.specs.declared.event.Event.{Event}
use Rattle.dsql_history.specs.declared.event.Event.TheVariants.{Run, Replied, Ended}
use Rattle.dsql_history.specs.declared.reply.Reply.TheVariants as replies
use Rattle.dsql_cases_histories.specs.CallWords.{run, text, exec, one_changed, told_one_changed, executes, fetches, queries, asks_for_stats, open_start, lend, back, close, gone, fell, house, sent}
use Rattle.dsql_cases_histories.specs.BegunCalls.{started, queried, executed, left_idle}
use Rattle.dsql_cases_histories.specs.Words.{begins}

-- The report has another version.
abbrev pub has_another_version : List Event
has_another_version =
    Run 2 all_caps
    ∷ Ended
    ∷ []

-- The history doesn't begin with `Run`.
abbrev pub begins_without_run : List Event
begins_without_run =
    executes 1 1
    ∷ open_start 1 1
    ∷ []

-- A second `Run` comes.
abbrev pub runs_twice : List Event
runs_twice =
    started
    ++ run
    ∷ []

-- The run ends a second time.
abbrev pub ends_twice : List Event
ends_twice =
    started
    ++ Ended
    ∷ Ended
    ∷ []

-- The first call is call 2.
abbrev pub skips_a_call : List Event
skips_a_call =
    started
    ++ executes 1 2
    ∷ []

-- A client enters a call before its last call has a reply.
abbrev pub enters_while_busy : List Event
enters_while_busy =
    started
    ++ executes 1 1
    ∷ open_start 1 1
    ∷ asks_for_stats 1 2
    ∷ []

-- Two queries make the same label.
abbrev pub makes_a_label_twice : List Event
makes_a_label_twice =
    started
    ++ queries 1 1 (codes "r")
    ∷ open_start 1 1
    ∷ queries 2 2 (codes "r")
    ∷ []

-- A transaction gets the label of rows.
abbrev pub begins_under_the_label_of_rows : List Event
begins_under_the_label_of_rows =
    started
    ++ queries 1 1 (codes "r")
    ∷ open_start 1 1
    ∷ begins 2 2 (codes "r")
    ∷ []

-- A call replies twice.
abbrev pub replies_twice : List Event
replies_twice =
    executed
    ++ back 1
    ∷ Replied 1 told_one_changed
    ∷ Replied 1 told_one_changed
    ∷ []

-- A reply is for no call.
abbrev pub replies_to_no_call : List Event
replies_to_no_call =
    started
    ++ Replied 1 replies.Ok
    ∷ []

-- The first connection is connection 2.
abbrev pub skips_a_connection : List Event
skips_a_connection =
    started
    ++ executes 1 1
    ∷ open_start 2 1
    ∷ []

-- A lending has the number of a later tenure.
abbrev pub lends_in_another_tenure : List Event
lends_in_another_tenure =
    left_idle
    ++ executes 1 5
    ∷ lend 1 4 5
    ∷ []

-- An answer is heard in an earlier tenure.
abbrev pub hears_in_another_tenure : List Event
hears_in_another_tenure =
    left_idle
    ++ executes 1 5
    ∷ lend 1 3 5
    ∷ sent 1 2 5 5 (exec text) one_changed
    ∷ []

-- A connection is lent before it is connected.
abbrev pub lends_before_the_connect : List Event
lends_before_the_connect =
    started
    ++ executes 1 1
    ∷ open_start 1 1
    ∷ lend 1 2 1
    ∷ []

-- A connection that was refused is lent.
abbrev pub lends_a_refused_one : List Event
lends_a_refused_one =
    started
    ++ executes 1 1
    ∷ open_start 1 1
    ∷ house 1 1 Connect (answers.Fail (codes "down"))
    ∷ lend 1 2 1
    ∷ []

-- Another call enters before a connected connection is lent.
abbrev pub leaves_a_connected_one : List Event
leaves_a_connected_one =
    started
    ++ executes 1 1
    ∷ open_start 1 1
    ∷ house 1 1 Connect answers.Done
    ∷ asks_for_stats 2 2
    ∷ []

-- A connection falls before it was refused.
abbrev pub falls_before_the_connect : List Event
falls_before_the_connect =
    started
    ++ executes 1 1
    ∷ open_start 1 1
    ∷ fell 1 1
    ∷ []

-- A connection is gone before it is shut.
abbrev pub goes_unshut : List Event
goes_unshut =
    started
    ++ executes 1 1
    ∷ open_start 1 1
    ∷ house 1 1 Connect answers.Done
    ∷ lend 1 2 1
    ∷ sent 1 2 1 1 (exec text) answers.Bad
    ∷ close 1 causes.Bad
    ∷ gone 1
    ∷ []

-- A bad connection becomes idle.
abbrev pub keeps_a_bad_one : List Event
keeps_a_bad_one =
    started
    ++ executes 1 1
    ∷ open_start 1 1
    ∷ house 1 1 Connect answers.Done
    ∷ lend 1 2 1
    ∷ sent 1 2 1 1 (exec text) answers.Bad
    ∷ back 1
    ∷ []

-- A connection with open rows is given back.
abbrev pub gives_back_open_rows : List Event
gives_back_open_rows =
    queried
    ++ back 1
    ∷ []

-- A fetch is answered with a result.
abbrev pub answers_a_fetch_with_a_result : List Event
answers_a_fetch_with_a_result =
    queried
    ++ fetches 1 2 (codes "r")
    ∷ sent 1 2 1 2 (Next 1) one_changed
    ∷ []

-- A call replies that too many connections are open.
abbrev pub tells_of_too_many : List Event
tells_of_too_many =
    started
    ++ executes 1 1
    ∷ Replied 1 replies.TooMany
    ∷ []

-- A connection becomes idle before it is connected.
abbrev pub becomes_idle_before_the_connect : List Event
becomes_idle_before_the_connect =
    started
    ++ executes 1 1
    ∷ open_start 1 1
    ∷ back 1
    ∷ []
