-- Defines worked ends of rows: whether each end is reported as an error, and what a scan then returns.
use Rattle.std.specs.Prelude.{◌≡◌, [], ◌∷◌, Some, None, Err, codes}
use Rattle.dsql_cancel.specs.declared.token.Cause.TheVariants.{Canceled, Deadline}
use Rattle.dsql_rows.specs.declared.end.RowsEnd.TheVariants as end
use Rattle.dsql_rows.specs.declared.end.RowsOver.TheVariants as over
use Rattle.dsql_rows.specs.declared.fault.RowsFault.TheVariants as fault
use Rattle.dsql_rows.specs.declared.rows.Rows.{Rows}
use Rattle.dsql_rows.specs.OpenRows.{fresh, ended_by, told_by, scan_of}

abbrev pub some_rows : Rows
some_rows = fresh 2 (codes "n" ∷ [])

pub record WorkedEnds : Type 0 where
  pub live : told_by some_rows ≡ None
  pub closed : told_by (ended_by end.Close some_rows) ≡ None
  pub read_to_the_end : told_by (ended_by end.EndOfRows some_rows) ≡ None
  pub with_transaction : told_by (ended_by end.TxEnded some_rows) ≡ None
  pub with_run : told_by (ended_by end.EndOfRun some_rows) ≡ None
  pub canceled : told_by (ended_by (end.Cancel Canceled) some_rows) ≡ Some (end.Cancel Canceled)
  pub too_late : told_by (ended_by (end.Cancel Deadline) some_rows) ≡ Some (end.Cancel Deadline)
  pub failed : told_by (ended_by (end.Failed (codes "lost")) some_rows) ≡ Some (end.Failed (codes "lost"))
  pub bad : told_by (ended_by end.BadConn some_rows) ≡ Some end.BadConn
  pub closed_first : told_by (ended_by (end.Cancel Canceled) (ended_by end.Close some_rows)) ≡ None
  pub canceled_first : told_by (ended_by end.TxEnded (ended_by (end.Cancel Deadline) some_rows))
      ≡ Some (end.Cancel Deadline)
  pub scan_in_ended_transaction : scan_of (ended_by end.TxEnded some_rows) [] ≡ Err (fault.RowsClosed over.TxEnded)
  pub scan_of_canceled : scan_of (ended_by (end.Cancel Deadline) some_rows) []
      ≡ Err (fault.RowsClosed (over.Cancel Deadline))
