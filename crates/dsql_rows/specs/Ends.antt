-- Defines what ends rows.
use Rattle.std.specs.Prelude.{Bool, true, false}
use Rattle.dsql_rows.specs.declared.end.RowsEnd.{RowsEnd}
use Rattle.dsql_rows.specs.declared.end.RowsEnd.TheVariants as end
use Rattle.dsql_rows.specs.declared.end.RowsOver.{RowsOver}
use Rattle.dsql_rows.specs.declared.end.RowsOver.TheVariants as over

-- Returns the end without its text.
abbrev pub over_of : RowsEnd → RowsOver
over_of end.Close = over.Close
over_of end.EndOfRows = over.EndOfRows
over_of end.TxEnded = over.TxEnded
over_of (end.Cancel cause) = over.Cancel cause
over_of (end.Failed text) = over.Failed
over_of end.BadConn = over.BadConn
over_of end.EndOfRun = over.EndOfRun

-- Is true if the end is reported as an error.
abbrev pub is_fault : RowsEnd → Bool
is_fault (end.Cancel cause) = true
is_fault (end.Failed text) = true
is_fault end.BadConn = true
is_fault _ = false
