-- Runs in which several clients have calls under way in transactions. Their parts follow their lines. Events
-- are oldest first.
use Rattle.std.specs.Prelude.{[], ◌∷◌, true}
use Rattle.dsql_history.specs.driver.declared.call.DriverCall.TheVariants.{Reset, Prepare, Exec, Next, CloseRows, CloseStmt, Valid}
use Rattle.dsql_history.specs.driver.declared.answer.DriverAnswer.TheVariants as answers
use Rattle.dsql_history.specs.driver.declared.answer.DriverAnswer.TheVariants.{Done}
use Rattle.dsql_history.specs.pool.declared.moves.CloseCause.TheVariants.{DbClosed}
use Rattle.dsql_history.specs.tx.declared.end.TxEnd.TheVariants.{Commit}
use Rattle.dsql_history.specs.declared.event.Event.TheVariants.{Waits, Replied, Ended}
use Rattle.dsql_history.specs.declared.reply.Reply.TheVariants.{Rows, Truth, TxDone}
use Rattle.dsql_cases_histories.specs.Words.{x, y, r, text, columns, exec, query, one_changed, cursor, row, begins, executes, executes_in, queries_in, fetches, commits, rolls_back, open_start, lend, lend_tx, back, close, gone, within, beside, handle, prepared, called}
use Rattle.dsql_follows.specs.declared.line.Line.TheVariants.{Skip, Step}
use Rattle.dsql_follows.specs.Follows.{Played}
use Rattle.dsql_cases_runs.specs.Words.{limits, calls_begin, calls_exec, calls_exec_in, starts_exec_in, calls_query_in, starts_next, calls_commit, starts_commit, calls_rollback, sets_open, connects, shuts, begun, committed, rolled_back, tests, is_done, is_told, begins_first, part, played}

-- Client 1 executes a text in four steps, and client 2 commits meanwhile. Client 2's steps do nothing until client 1's
-- call has its reply. That call has the turn from its first driver call to its last. Then one step sends the `Commit`,
-- which doesn't show, and the next step hears the answer.
abbrev pub commit_waits_for_the_turn : Played
commit_waits_for_the_turn =
    played
    (part (calls_begin 1 x) (begins_first x)
    ∷ part (starts_exec_in 1 x) (executes_in x 1 2 ∷ [])
    ∷ part (Step 1) (within 1 2 1 2 exec answers.Skip ∷ [])
    ∷ part (starts_commit 2 x) (commits 2 3 x ∷ [])
    ∷ part (Step 2) []
    ∷ part (Step 1) (within 1 2 1 2 (Prepare text) prepared ∷ [])
    ∷ part (Step 2) []
    ∷ part (Step 1) (within 1 2 1 2 (Exec handle []) one_changed ∷ [])
    ∷ part (Step 1) (within 1 2 1 2 (CloseStmt 1) Done
    ∷ is_told 2
    ∷ [])
    ∷ part (Step 2) []
    ∷ part (Step 2) (committed 1 2 1 3 ∷ [])
    ∷ part (Step 2) (tests 1 2 1 3
    ∷ back 1
    ∷ is_done 3
    ∷ [])
    ∷ [])
    (Ended
    ∷ close 1 DbClosed
    ∷ shuts 1 3
    ∷ gone 1
    ∷ [])

-- A call waits for the turn, and its transaction ends. At its next step it replies so, while another call's driver call
-- is still under way. That driver call goes on to its end.
abbrev pub told_beside_a_call : Played
told_beside_a_call =
    played
    (part (calls_begin 1 x) (begins_first x)
    ∷ part (starts_exec_in 1 x) (executes_in x 1 2 ∷ [])
    ∷ part (starts_exec_in 2 x) (executes_in x 2 3 ∷ [])
    ∷ part (starts_commit 3 x) (commits 3 4 x ∷ [])
    ∷ part (Step 2) (Replied 3 (TxDone Commit) ∷ [])
    ∷ part (Step 3) []
    ∷ part (Step 1) (within 1 2 1 2 exec one_changed
    ∷ is_told 2
    ∷ [])
    ∷ part (Step 3) []
    ∷ part (Step 3) (committed 1 2 1 4 ∷ [])
    ∷ part Skip []
    ∷ [])
    (tests 1 2 1 4
    ∷ back 1
    ∷ is_done 4
    ∷ Ended
    ∷ close 1 DbClosed
    ∷ shuts 1 3
    ∷ gone 1
    ∷ [])

-- One connection may be open. The second transaction is lent it in the step in which the first one gives it
-- back. A kept line is entered after the begin has its reply.
abbrev pub begun_after_another : Played
begun_after_another =
    played
    (part (limits 1) (sets_open 1 ∷ [])
    ∷ part (calls_begin 1 x) (begins_first x)
    ∷ part (calls_begin 2 y) (begins 2 2 y
    ∷ Waits 2
    ∷ [])
    ∷ part (calls_exec_in 2 y) []
    ∷ part (calls_rollback 1 x) (rolls_back 1 3 x
    ∷ rolled_back 1 2 1 3
    ∷ tests 1 2 1 3
    ∷ back 1
    ∷ lend_tx 1 3 2
    ∷ is_done 3
    ∷ beside 1 3 2 2 Reset Done
    ∷ begun 1 3 2
    ∷ is_done 2
    ∷ executes_in y 2 4
    ∷ within 1 3 2 4 exec one_changed
    ∷ is_told 4
    ∷ [])
    ∷ part (calls_commit 2 y) (commits 2 5 y
    ∷ committed 1 3 2 5
    ∷ tests 1 3 2 5
    ∷ back 1
    ∷ is_done 5
    ∷ [])
    ∷ [])
    (Ended
    ∷ close 1 DbClosed
    ∷ shuts 1 4
    ∷ gone 1
    ∷ [])

-- The script ends with a live transaction, which has live rows and two held calls. The calls go on to their
-- replies, the smaller client first. Then the run ends, and the layer closes the rows and rolls back before it
-- shuts the closed connections.
abbrev pub rolled_back_at_the_end : Played
rolled_back_at_the_end =
    played
    (part (calls_begin 1 x) (begins_first x)
    ∷ part (calls_exec 2) (executes 2 2
    ∷ open_start 2 2
    ∷ connects 2
    ∷ lend 2 2 2
    ∷ called 2 2 2 exec one_changed
    ∷ called 2 2 2 Valid Done
    ∷ back 2
    ∷ is_told 2
    ∷ [])
    ∷ part (calls_query_in 1 r x) (queries_in x 1 3 r
    ∷ within 1 2 1 3 query (cursor 1)
    ∷ Replied 3 (Rows columns)
    ∷ [])
    ∷ part (starts_next 1 r) (fetches 1 4 r ∷ [])
    ∷ part (starts_exec_in 2 x) (executes_in x 2 5 ∷ [])
    ∷ [])
    (within 1 2 1 4 (Next 1) row
    ∷ Replied 4 (Truth true)
    ∷ within 1 2 1 5 exec one_changed
    ∷ is_told 5
    ∷ Ended
    ∷ close 2 DbClosed
    ∷ within 1 2 1 0 (CloseRows 1) Done
    ∷ rolled_back 1 2 1 0
    ∷ tests 1 2 1 0
    ∷ close 1 DbClosed
    ∷ shuts 1 3
    ∷ gone 1
    ∷ shuts 2 3
    ∷ gone 2
    ∷ [])
