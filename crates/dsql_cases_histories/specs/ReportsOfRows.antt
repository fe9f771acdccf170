-- Whole reports of calls that read rows. Each is oldest first.
use Rattle.std.specs.Prelude.{List, [], ◌∷◌, true, false, pos, codes}
use Rattle.dsql_history.specs.value.declared.value.Value.TheVariants as values
use Rattle.dsql_history.specs.scan.declared.cell.Cell.TheVariants as cells
use Rattle.dsql_history.specs.scan.declared.dest.Dest.TheVariants as dests
use Rattle.dsql_history.specs.works.declared.fault_word.FaultWord.TheVariants as words
use Rattle.dsql_history.specs.driver.declared.call.DriverCall.TheVariants.{Connect, Next, CloseRows, Shut, Valid, Reset}
use Rattle.dsql_history.specs.driver.declared.answer.DriverAnswer.TheVariants as answers
use Rattle.dsql_history.specs.rows.declared.end.RowsOver.TheVariants as overs
use Rattle.dsql_history.specs.pool.declared.moves.CloseCause.TheVariants as causes
use Rattle.dsql_history.specs.declared.event.Event.{Event}
use Rattle.dsql_history.specs.declared.event.Event.TheVariants.{Replied, Ended}
use Rattle.dsql_history.specs.declared.reply.Reply.TheVariants as replies
use Rattle.dsql_cases_histories.specs.CallWords.{run, exec, query_of, one_changed, told_one_changed, enters_exec, queries_for, reads_into, fetches, scans_into, open_start, lend, back, close, gone, house, sent}

-- A row is read, no row is there, and a row has too few values.
abbrev pub reads_one_row : List Event
reads_one_row =
    run
    ∷ enters_exec 1 1 (codes "SET a 1")
    ∷ open_start 1 1
    ∷ house 1 1 Connect answers.Done
    ∷ lend 1 2 1
    ∷ sent 1 2 1 1 (exec (codes "SET a 1")) one_changed
    ∷ sent 1 2 1 1 Valid answers.Done
    ∷ back 1
    ∷ Replied 1 told_one_changed
    ∷ reads_into 1 2 (dests.I64 ∷ []) (codes "GET a")
    ∷ lend 1 3 2
    ∷ sent 1 3 2 2 Reset answers.Done
    ∷ sent 1 3 2 2 (query_of (codes "GET a")) (answers.Cursor 1 ((codes "value") ∷ []))
    ∷ sent 1 3 2 2 (Next 1) (answers.Row ((values.Int (pos 1)) ∷ []))
    ∷ sent 1 3 2 2 (CloseRows 1) answers.Done
    ∷ sent 1 3 2 2 Valid answers.Done
    ∷ back 1
    ∷ Replied 2 (replies.Cells ((cells.Int (pos 1)) ∷ []))
    ∷ reads_into 1 3 (dests.I64 ∷ []) (codes "GET b")
    ∷ lend 1 4 3
    ∷ sent 1 4 3 3 Reset answers.Done
    ∷ sent 1 4 3 3 (query_of (codes "GET b")) (answers.Cursor 2 ((codes "value") ∷ []))
    ∷ sent 1 4 3 3 (Next 2) answers.End
    ∷ sent 1 4 3 3 (CloseRows 2) answers.Done
    ∷ sent 1 4 3 3 Valid answers.Done
    ∷ back 1
    ∷ Replied 3 replies.NoRows
    ∷ reads_into 1 4 (dests.I64 ∷ dests.I64 ∷ []) (codes "GET a")
    ∷ lend 1 5 4
    ∷ sent 1 5 4 4 Reset answers.Done
    ∷ sent 1 5 4 4 (query_of (codes "GET a")) (answers.Cursor 3 ((codes "value") ∷ []))
    ∷ sent 1 5 4 4 (Next 3) (answers.Row ((values.Int (pos 1)) ∷ []))
    ∷ sent 1 5 4 4 (CloseRows 3) answers.Done
    ∷ sent 1 5 4 4 Valid answers.Done
    ∷ back 1
    ∷ Replied 4 (replies.DestCount 1 2)
    ∷ Ended
    ∷ close 1 causes.DbClosed
    ∷ house 1 6 Shut answers.Done
    ∷ gone 1
    ∷ []

-- Rows are read to their end and scanned into destinations.
abbrev pub reads_rows : List Event
reads_rows =
    run
    ∷ enters_exec 1 1 (codes "SET a 1")
    ∷ open_start 1 1
    ∷ house 1 1 Connect answers.Done
    ∷ lend 1 2 1
    ∷ sent 1 2 1 1 (exec (codes "SET a 1")) one_changed
    ∷ sent 1 2 1 1 Valid answers.Done
    ∷ back 1
    ∷ Replied 1 told_one_changed
    ∷ queries_for 1 2 (codes "r") (codes "LIST a")
    ∷ lend 1 3 2
    ∷ sent 1 3 2 2 Reset answers.Done
    ∷ sent 1 3 2 2 (query_of (codes "LIST a")) (answers.Cursor 1 ((codes "key") ∷ (codes "value") ∷ []))
    ∷ Replied 2 (replies.Rows ((codes "key") ∷ (codes "value") ∷ []))
    ∷ scans_into 1 3 (codes "r") (dests.Text ∷ dests.I64 ∷ [])
    ∷ Replied 3 replies.NoNextYet
    ∷ fetches 1 4 (codes "r")
    ∷ sent 1 3 2 4 (Next 1) (answers.Row ((values.Text (codes "a")) ∷ (values.Int (pos 1)) ∷ []))
    ∷ Replied 4 (replies.Truth true)
    ∷ scans_into 1 5 (codes "r") (dests.Text ∷ dests.I64 ∷ [])
    ∷ Replied 5 (replies.Cells ((cells.Text (codes "a")) ∷ (cells.Int (pos 1)) ∷ []))
    ∷ scans_into 1 6 (codes "r") (dests.I8 ∷ dests.Any ∷ [])
    ∷ Replied 6 (replies.Scan 0 words.NotANumber)
    ∷ fetches 1 7 (codes "r")
    ∷ sent 1 3 2 7 (Next 1) answers.End
    ∷ sent 1 3 2 7 (CloseRows 1) answers.Done
    ∷ sent 1 3 2 7 Valid answers.Done
    ∷ back 1
    ∷ Replied 7 (replies.Truth false)
    ∷ scans_into 1 8 (codes "r") (dests.Text ∷ dests.I64 ∷ [])
    ∷ Replied 8 (replies.RowsClosed overs.EndOfRows)
    ∷ Ended
    ∷ close 1 causes.DbClosed
    ∷ house 1 4 Shut answers.Done
    ∷ gone 1
    ∷ []
