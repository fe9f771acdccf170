-- Defines worked steps. Each history is oldest first.
use Rattle.std.specs.Prelude.{◌≡◌, ℕ, List, [], ◌∷◌, ◌++◌, reverse, true, pos}
use Rattle.dsql_laws.specs.driver.declared.call.DriverCall.TheVariants as calls
use Rattle.dsql_laws.specs.driver.declared.answer.DriverAnswer.TheVariants as answers
use Rattle.dsql_laws.specs.pool.declared.moves.CloseCause.TheVariants as causes
use Rattle.dsql_laws.specs.history.declared.event.Setting.TheVariants.{MaxOpen}
use Rattle.dsql_laws.specs.history.declared.event.Control.TheVariants.{Tick, Set}
use Rattle.dsql_laws.specs.history.declared.event.Event.{Event}
use Rattle.dsql_laws.specs.history.declared.event.Event.TheVariants.{Entered, Heard, Ticked, SetLimit, Waits, Replied, Ended}
use Rattle.dsql_laws.specs.history.declared.reply.Reply.TheVariants as replies
use Rattle.dsql_laws.specs.history.Computed.{is_legal}
use Rattle.dsql_cases_histories.specs.Words.{run, run_plain, x, r, begin, begins, fetches, commits, closes_db, open_start, lend_tx, close, house, within, beside}
use Rattle.dsql_cases_histories.specs.Begun.{begun, passed_on, queried_twice}
use Rattle.dsql_laws_steps.specs.Groups.{gone_on, after_enter, after_heard, after_control, after_end}

-- Returns the history after the step in which this event comes from outside.
abbrev pub step : List Event → Event → List Event
step past (Entered client n op) = after_enter past client op
step past (Heard e) = after_heard past e
step past (Ticked now) = after_control past (Tick now)
step past (SetLimit setting n) = after_control past (Set setting n)
step past Ended = after_end past
step past e = e ∷ past

-- Holds if these events follow in the step in which this event comes from outside, and the history is legal.
abbrev pub StepsTo : List Event → Event → List Event → Type 0
StepsTo history e later =
    (step (reverse history) e ≡ reverse (history ++ e ∷ later)) × (is_legal (reverse (history ++ e ∷ later)) ≡ true)

-- Holds if these events follow as call n goes on, and the history is legal.
abbrev pub GoesOnTo : List Event → ℕ → List Event → Type 0
GoesOnTo history n later =
    (gone_on n (reverse history) ≡ reverse (history ++ later)) × (is_legal (reverse (history ++ later)) ≡ true)

-- A history in which a connection is being opened for a begin.
abbrev pub opening : List Event
opening =
    run_plain
    ∷ begins 1 1 x
    ∷ open_start 1 1
    ∷ []

-- A history in which a connection was lent to a begin.
abbrev pub lent : List Event
lent =
    opening
    ++ house 1 1 calls.Connect answers.Done
    ∷ lend_tx 1 2 1
    ∷ []

-- A history in which the database was also closed after that.
abbrev pub lent_once_closed : List Event
lent_once_closed =
    lent
    ++ closes_db 2 2
    ∷ Replied 2 replies.Ok
    ∷ []

-- A history in which a connection was lent to a begin, with a driver that can test.
abbrev pub lent_to_test : List Event
lent_to_test =
    run
    ∷ begins 1 1 x
    ∷ open_start 1 1
    ∷ house 1 1 calls.Connect answers.Done
    ∷ lend_tx 1 2 1
    ∷ []

-- A history in which a begin has its third connection, and two were bad.
abbrev pub lent_thrice : List Event
lent_thrice =
    lent
    ++ beside 1 2 1 1 begin answers.Bad
    ∷ close 1 causes.Bad
    ∷ open_start 2 1
    ∷ house 2 1 calls.Connect answers.Done
    ∷ lend_tx 2 2 1
    ∷ beside 2 2 1 1 begin answers.Bad
    ∷ close 2 causes.Bad
    ∷ open_start 3 1
    ∷ house 3 1 calls.Connect answers.Done
    ∷ lend_tx 3 2 1
    ∷ []

-- A history in which a fetch of rows of a transaction is under way.
abbrev pub fetching : List Event
fetching =
    queried_twice
    ++ fetches 1 4 r
    ∷ []

-- A history in which the fetch got no row.
abbrev pub fetched : List Event
fetched =
    fetching
    ++ within 1 2 1 4 (calls.Next 1) answers.End
    ∷ []

-- A history in which a commit also entered after that.
abbrev pub fetched_beside_a_commit : List Event
fetched_beside_a_commit =
    fetched
    ++ commits 2 5 x
    ∷ []

-- A history in which a commit by call 2 is under way.
abbrev pub committing : List Event
committing =
    begun
    ++ commits 1 2 x
    ∷ []

-- A history in which a commit by call 2 is under way, with a driver that can test.
abbrev pub committing_to_test : List Event
committing_to_test =
    lent_to_test
    ++ within 1 2 1 1 begin answers.Done
    ∷ Replied 1 replies.Ok
    ∷ commits 1 2 x
    ∷ []

-- A history in which the test of the commit's connection is under way.
abbrev pub testing : List Event
testing =
    committing_to_test
    ++ within 1 2 1 2 calls.Commit answers.Done
    ∷ []

-- Returns a history in which this call waits for the only connection that may be open. A commit is under way on
-- it.
abbrev pub awaited_by : Event → List Event
awaited_by call =
    run_plain
    ∷ SetLimit MaxOpen (pos 1)
    ∷ begins 1 1 x
    ∷ open_start 1 1
    ∷ house 1 1 calls.Connect answers.Done
    ∷ lend_tx 1 2 1
    ∷ within 1 2 1 1 begin answers.Done
    ∷ Replied 1 replies.Ok
    ∷ call
    ∷ Waits 2
    ∷ commits 1 3 x
    ∷ []

-- A history in which a commit waits for the turn, and so does an exec of call 3.
abbrev pub commit_waits : List Event
commit_waits =
    passed_on
    ++ commits 3 4 x
    ∷ []

-- A history in which the run has ended while a transaction went on.
abbrev pub ended : List Event
ended =
    begun
    ++ Ended
    ∷ []
