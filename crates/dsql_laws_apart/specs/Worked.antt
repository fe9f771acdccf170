-- Worked histories in which a call sends what isn't its own to send. Each is oldest first, and damaged in its last
-- event.
use Rattle.std.specs.Prelude.{Bool, true, List, [], ◌∷◌, ◌++◌}
use Rattle.dsql_laws_calls.specs.driver.declared.call.DriverCall.TheVariants as calls
use Rattle.dsql_laws_calls.specs.driver.declared.answer.DriverAnswer.TheVariants as answers
use Rattle.dsql_laws_calls.specs.journal.declared.entry.Entry.{Entry}
use Rattle.dsql_laws_calls.specs.journal.declared.entry.Owner.TheVariants.{Call}
use Rattle.dsql_laws_calls.specs.history.declared.event.Event.{Event}
use Rattle.dsql_laws_calls.specs.history.declared.event.Event.TheVariants.{Heard, Replied}
use Rattle.dsql_cases_histories.specs.Words.{run_plain, x, y, r, exec, begin, row, one_changed, told_one_changed, begins, executes, executes_in, fetches, commits, rolls_back, open_start, lend, lend_tx, house, within}
use Rattle.dsql_cases_histories.specs.Begun.{begun}

-- Returns a rule of answers as a rule of events. Every other event keeps it.
abbrev pub of_answers : (List Event → Entry → Bool) → List Event → Event → Bool
of_answers rule before (Heard e) = rule before e
of_answers rule before _ = true

-- An exec on a label that no call made sends in the transaction of another call.
abbrev pub an_exec_on_an_unknown_label_sends : List Event
an_exec_on_an_unknown_label_sends =
    begun
    ++ executes_in y 2 2
    ∷ within 1 2 1 2 exec one_changed
    ∷ []

-- A commit of a label that no call made ends the transaction of another call.
abbrev pub a_commit_of_an_unknown_label_sends : List Event
a_commit_of_an_unknown_label_sends =
    begun
    ++ commits 2 2 y
    ∷ within 1 2 1 2 calls.Commit answers.Done
    ∷ []

-- A fetch from rows that no call made sends.
abbrev pub a_fetch_from_unknown_rows_sends : List Event
a_fetch_from_unknown_rows_sends =
    begun
    ++ fetches 2 2 r
    ∷ within 1 2 1 2 (calls.Next 1) row
    ∷ []

-- An exec on the database sends the Begin that another call asked for.
abbrev pub another_call_sends_the_begin : List Event
another_call_sends_the_begin =
    run_plain
    ∷ begins 1 1 x
    ∷ open_start 1 1
    ∷ executes 2 2
    ∷ open_start 2 2
    ∷ house 1 1 calls.Connect answers.Done
    ∷ lend_tx 1 2 1
    ∷ within 1 2 1 2 begin answers.Done
    ∷ []

-- An exec in a transaction sends a Begin there.
abbrev pub an_exec_in_it_sends_a_begin : List Event
an_exec_in_it_sends_a_begin =
    begun
    ++ executes_in x 2 2
    ∷ within 1 2 1 2 begin answers.Done
    ∷ []

-- The call that begins a transaction sends an exec there.
abbrev pub a_begin_sends_an_exec : List Event
a_begin_sends_an_exec =
    run_plain
    ∷ begins 1 1 x
    ∷ open_start 1 1
    ∷ house 1 1 calls.Connect answers.Done
    ∷ lend_tx 1 2 1
    ∷ within 1 2 1 1 begin answers.Done
    ∷ within 1 2 1 1 exec one_changed
    ∷ []

-- A rollback sends in a transaction that a commit ended.
abbrev pub a_rollback_sends_after_a_commit_entered : List Event
a_rollback_sends_after_a_commit_entered =
    begun
    ++ commits 1 2 x
    ∷ rolls_back 2 3 x
    ∷ within 1 2 1 3 calls.Rollback answers.Done
    ∷ []

-- An exec on the database carries the number of a transaction.
abbrev pub an_exec_beside_it_has_its_number : List Event
an_exec_beside_it_has_its_number =
    begun
    ++ executes 2 2
    ∷ open_start 2 2
    ∷ house 2 1 calls.Connect answers.Done
    ∷ lend 2 2 2
    ∷ Heard (record {
      conn = 2;
      tenure = 2;
      owner = Call 2;
      call_no = 2;
      tx = 1;
      call = exec;
      answer = one_changed;
    })
    ∷ []

-- An exec sends after its reply.
abbrev pub an_exec_in_it_sends_after_its_reply : List Event
an_exec_in_it_sends_after_its_reply =
    begun
    ++ executes_in x 2 2
    ∷ within 1 2 1 2 exec one_changed
    ∷ Replied 2 told_one_changed
    ∷ within 1 2 1 2 exec one_changed
    ∷ []

-- A call sends that hasn't entered.
abbrev pub a_call_that_has_not_entered_sends : List Event
a_call_that_has_not_entered_sends =
    begun
    ++ within 1 2 1 2 exec one_changed
    ∷ []
