-- Defines the replies that calls get as they enter, and by the driver's answers.
use Rattle.std.specs.Prelude.{ℕ, Bool, true, false, cond, List, [], Option, Some, None, option_map, if◌then◌else◌, Ok, Err}
use Rattle.dsql_history_work.specs.value.declared.arg.Named.{Named}
use Rattle.dsql_history_work.specs.value.declared.arg.ArgFault.{ArgFault}
use Rattle.dsql_history_work.specs.value.declared.arg.ArgFault.TheVariants as faults
use Rattle.dsql_history_work.specs.value.Arguments.{count_fault}
use Rattle.dsql_history_work.specs.driver.declared.call.DriverCall.{DriverCall}
use Rattle.dsql_history_work.specs.driver.declared.call.DriverCall.TheVariants.{Reset, Ping, Prepare, Exec, Query, Next, CloseRows, Commit, Rollback}
use Rattle.dsql_history_work.specs.driver.declared.call.DriverCall.TheVariants as calls
use Rattle.dsql_history_work.specs.driver.declared.call.Level.{Level}
use Rattle.dsql_history_work.specs.driver.declared.call.Level.TheVariants as levels
use Rattle.dsql_history_work.specs.driver.declared.answer.DriverAnswer.{DriverAnswer}
use Rattle.dsql_history_work.specs.driver.declared.answer.DriverAnswer.TheVariants as answers
use Rattle.dsql_history_work.specs.rows.declared.rows.Rows.{Rows}
use Rattle.dsql_history_work.specs.rows.declared.end.RowsEnd.{RowsEnd}
use Rattle.dsql_history_work.specs.rows.declared.end.RowsEnd.TheVariants as ends
use Rattle.dsql_history_work.specs.rows.declared.fault.RowsFault.TheVariants as faults_of_rows
use Rattle.dsql_history_work.specs.rows.OpenRows.{Scanned, is_live, scan_of}
use Rattle.dsql_history_work.specs.scan.Rows.{RowScan, row_of}
use Rattle.dsql_history_work.specs.scan.declared.fault.RowFault.TheVariants as rows
use Rattle.dsql_history_work.specs.course.Made.{or_else}
use Rattle.dsql_history_work.specs.Calls.{word_of}
use Rattle.dsql_history.specs.declared.event.Op.{Op}
use Rattle.dsql_history.specs.declared.event.Op.TheVariants as ops
use Rattle.dsql_history.specs.declared.reply.Reply.{Reply}
use Rattle.dsql_history.specs.declared.reply.Reply.TheVariants as reply
use Rattle.dsql_history.specs.declared.reply.Reply.TheVariants.{Result, Truth, Cells, Driver, BadConn, NumArgs, HighBit, NamedRefused, BadName, Absent, RowsClosed, NoNextYet, NoRows, DestCount, Scan, Isolation, ReadOnly}
use Rattle.dsql_history.specs.declared.work.Work.{Work}
use Rattle.dsql_history.specs.declared.work.Task.TheVariants.{ReadOne, HandOut}
use Rattle.dsql_history.specs.declared.work.Work.TheVariants.{Statement, Fetch, Close}

-- Returns the text of an operation's statement, empty if it has none.
abbrev pub statement : Op → List ℕ
statement (ops.Exec target text args) = text
statement (ops.Query label target text args) = text
statement (ops.One target dests text args) = text
statement _ = []

-- Returns the operation's arguments.
abbrev pub arguments : Op → List Named
arguments (ops.Exec target text args) = args
arguments (ops.Query label target text args) = args
arguments (ops.One target dests text args) = args
arguments _ = []

-- Returns the label of the rows that the operation names, empty if it names none.
abbrev pub label_of : Op → List ℕ
label_of (ops.Next rows) = rows
label_of (ops.Scan rows dests) = rows
label_of (ops.RowsClose rows) = rows
label_of (ops.Err rows) = rows
label_of _ = []

-- Returns the reply that a refusal of arguments gives.
abbrev pub refused_with : ArgFault → Option Reply
refused_with (faults.HighBit number) = Some (HighBit number)
refused_with (faults.NumArgs want got) = Some (NumArgs want got)
refused_with (faults.NamedRefused name) = Some (NamedRefused name)
refused_with (faults.BadName name) = Some (BadName name)
refused_with faults.Memory = None

abbrev pub told_of : Option ArgFault → Option Reply
told_of None = None
told_of (Some fault) = refused_with fault

-- Returns the reply that the scan of a row gives.
abbrev pub told_row : RowScan → Option Reply
told_row (Ok cells) = Some (Cells cells)
told_row (Err (rows.DestCount want got)) = Some (DestCount want got)
told_row (Err (rows.At column fault)) = option_map (λ word. Scan column word) (word_of fault)
told_row (Err rows.Memory) = None

-- Returns the reply to a scan of rows.
abbrev pub scan_reply : Scanned → Option Reply
scan_reply (Ok cells) = Some (Cells cells)
scan_reply (Err (faults_of_rows.RowsClosed by)) = Some (RowsClosed by)
scan_reply (Err faults_of_rows.NoNextYet) = Some NoNextYet
scan_reply (Err (faults_of_rows.Scan why)) = told_row (Err why)
scan_reply (Err faults_of_rows.Memory) = None

-- Returns the reply that reports the fault that ended rows, if one did.
abbrev pub fault_reply : Option RowsEnd → Reply
fault_reply (Some (ends.Failed text)) = Driver text
fault_reply (Some ends.BadConn) = BadConn 1
fault_reply _ = reply.Ok

-- Returns this reply at once, unless the rows are live and the operation goes on.
abbrev pub unless_live : Rows → Reply → Option Reply
unless_live rows it = if is_live rows then None else Some it

-- Returns the reply that an operation on these rows, if there are any, gets at once. Only a fetch from live
-- rows and a close of live rows go on. All other operations get a reply as they enter.
abbrev pub rows_reply : Option Rows → Op → Option Reply
rows_reply None op = Some (Absent (label_of op))
rows_reply (Some rows) (ops.Next label) = unless_live rows (Truth false)
rows_reply (Some rows) (ops.RowsClose label) = unless_live rows reply.Ok
rows_reply (Some rows) (ops.Scan label dests) = scan_reply (scan_of rows dests)
rows_reply (Some rows) op = Some (fault_reply rows.ended)

-- Returns the reply that refuses this isolation level, if it isn't the default one.
abbrev pub isolation_refused : Level → Option Reply
isolation_refused levels.Default = None
isolation_refused level = Some (Isolation level)

-- Returns the reply that refuses a begin for its options, if any. A driver that accepts no options begins only
-- transactions of the default level that also write.
abbrev pub options_refused : Bool → Level → Bool → Option Reply
options_refused true level read_only = None
options_refused false level read_only = or_else (isolation_refused level) (cond read_only (Some ReadOnly) None)

-- Returns the reply that a bad connection gives a call: none as long as the call tries again.
abbrev pub bad_reply : Bool → ℕ → Option Reply
bad_reply again number = cond again None (Some (BadConn number))

-- Returns the reply that a deciding answer gives in this try. A Skip decides nothing.
abbrev pub reply_to : Bool → ℕ → DriverAnswer → Option Reply
reply_to again number (answers.Result last affected) = Some (Result last affected)
reply_to again number (answers.Fail text) = Some (Driver text)
reply_to again number answers.Bad = bad_reply again number
reply_to again number _ = None

-- Returns the reply that the answer to a query decides. A query that hands out rows replies their columns.
abbrev pub query_decision : Bool → ℕ → Work → DriverAnswer → Option Reply
query_decision again number (Statement it (HandOut label)) (answers.Cursor cursor columns) = Some (reply.Rows columns)
query_decision again number work answer = reply_to again number answer

-- Returns the reply that the answer to a fetch decides: the row that the call was to read, or whether there was
-- a row. That there is no row is an answer too.
abbrev pub fetch_decision : Bool → ℕ → Work → DriverAnswer → Option Reply
fetch_decision again number (Statement it (ReadOne dests)) (answers.Row values) = told_row (row_of values dests)
fetch_decision again number (Fetch k) (answers.Row values) = Some (Truth true)
fetch_decision again number (Fetch k) answer = Some (Truth false)
fetch_decision again number work answers.End = Some NoRows
fetch_decision again number work answer = reply_to again number answer

-- Returns the reply after the close of a cursor. The reply of a call that scanned a row waits for that close.
-- If the close fails, the call replies the failure instead. It doesn't try again, because the row was read.
abbrev pub closing_decision : ℕ → DriverAnswer → Option Reply → Option Reply
closing_decision number (answers.Fail text) (Some (Cells cells)) = Some (Driver text)
closing_decision number answers.Bad (Some (Cells cells)) = Some (BadConn number)
closing_decision number answer earlier = earlier

-- Returns the reply that an answer decides for a call that asks for nothing further: a close of rows, a transaction's
-- end or a ping. Such a call doesn't try again.
abbrev pub done_reply : ℕ → DriverAnswer → Option Reply
done_reply number answers.Done = Some reply.Ok
done_reply number answers.Bad = Some (BadConn number)
done_reply number answer = reply_to false number answer

-- Returns the reply that the answer to a Begin decides. A begin that is done replies Ok.
abbrev pub begin_reply : Bool → ℕ → DriverAnswer → Option Reply
begin_reply again number answers.Done = Some reply.Ok
begin_reply again number answer = reply_to again number answer

abbrev pub close_decision : ℕ → Work → DriverAnswer → Option Reply → Option Reply
close_decision number (Close k) answer earlier = done_reply number answer
close_decision number work answer earlier = closing_decision number answer earlier

-- How a call stands in a try as the driver answers it.
pub record Trying : Type 0 where
  -- Whether the call tries again after a Bad.
  pub again : Bool
  -- The number of this try.
  pub number : ℕ
  -- How many parameters the call has.
  pub count : ℕ
  -- What the call does.
  pub work : Work

-- Returns the reply that is decided after this answer, given how the call stands and what was decided earlier.
--
-- These answers decide: the answer to an Exec, a Ping, a fetch, a Begin, a Commit or a Rollback, and a Bad to a Reset.
-- A Query's answer decides if it fails or hands out rows. A Prepare's answer decides if it failed, or reports another
-- number of inputs. A Bad decides only if no other try is left.
--
-- The layer passes over a Fail to a Reset. A CloseStmt and a test decide nothing, and neither does the close of
-- rows that end with their transaction.
abbrev pub decision : Trying → DriverCall → DriverAnswer → Option Reply → Option Reply
decision trying (Exec input params) answer earlier = reply_to trying.again trying.number answer
decision trying (Query input params) answer earlier = query_decision trying.again trying.number trying.work answer
decision trying Ping answer earlier = done_reply trying.number answer
decision trying (calls.Begin level read_only) answer earlier = begin_reply trying.again trying.number answer
decision trying Commit answer earlier = done_reply trying.number answer
decision trying Rollback answer earlier = done_reply trying.number answer
decision trying (Next rows) answer earlier = fetch_decision trying.again trying.number trying.work answer
decision trying (CloseRows rows) answer earlier = close_decision trying.number trying.work answer earlier
decision trying (Prepare text) (answers.Prepared handle inputs) earlier = told_of (count_fault inputs trying.count)
decision trying (Prepare text) answer earlier = reply_to trying.again trying.number answer
decision trying Reset answers.Bad earlier = bad_reply trying.again trying.number
decision trying _ answer earlier = earlier
