-- A run of the first block of a generated script. Events are oldest first.
use Rattle.std.specs.Prelude.{ℕ, List, [], ◌∷◌, true, None, pos, codes}
use Rattle.dsql_history.specs.value.declared.value.Value.{Value}
use Rattle.dsql_history.specs.value.declared.value.Value.TheVariants as values
use Rattle.dsql_history.specs.value.declared.value.Param.{Param}
use Rattle.dsql_history.specs.value.declared.arg.Arg.{Arg}
use Rattle.dsql_history.specs.value.declared.arg.Arg.TheVariants as args
use Rattle.dsql_history.specs.value.declared.arg.Named.{Named}
use Rattle.dsql_history.specs.scan.declared.dest.Dest.TheVariants as dests
use Rattle.dsql_history.specs.scan.declared.cell.Cell.TheVariants as cells
use Rattle.dsql_history.specs.driver.declared.call.DriverCall.{DriverCall}
use Rattle.dsql_history.specs.driver.declared.call.DriverCall.TheVariants.{Prepare, Exec, Query, Next, CloseRows, CloseStmt}
use Rattle.dsql_history.specs.driver.declared.call.Input.TheVariants.{Text, Handle}
use Rattle.dsql_history.specs.driver.declared.answer.DriverAnswer.{DriverAnswer}
use Rattle.dsql_history.specs.driver.declared.answer.DriverAnswer.TheVariants.{Done, Skip, Prepared, Cursor, Row}
use Rattle.dsql_history.specs.pool.declared.moves.CloseCause.TheVariants.{DbClosed}
use Rattle.dsql_history.specs.declared.event.Event.{Event}
use Rattle.dsql_history.specs.declared.event.Event.TheVariants.{Entered, Replied, Ended}
use Rattle.dsql_history.specs.declared.event.Op.{Op}
use Rattle.dsql_history.specs.declared.event.Op.TheVariants as ops
use Rattle.dsql_history.specs.declared.event.Target.TheVariants.{Label}
use Rattle.dsql_history.specs.declared.reply.Reply.TheVariants.{Rows, Truth, Cells}
use Rattle.dsql_cases_histories.specs.Words.{one_changed, commits, back, close, gone, within}
use Rattle.dsql_follows.specs.declared.line.Line.TheVariants.{Client}
use Rattle.dsql_follows.specs.Sentences.{Part}
use Rattle.dsql_follows.specs.Follows.{Played}
use Rattle.dsql_cases_runs.specs.Words.{calls_begin, calls_commit, shuts, committed, tests, is_done, is_told, begins_first, part, played}

abbrev x1 : List ℕ
x1 = codes "x1"

abbrev r1 : List ℕ
r1 = codes "r1"

abbrev e1 : List ℕ
e1 = codes "e1"

abbrev sets : List ℕ
sets = codes "SET ? ?"

abbrev adds : List ℕ
adds = codes "ADD ? ?"

abbrev lists : List ℕ
lists = codes "LIST ?"

abbrev columns : List (List ℕ)
columns = codes "key" ∷ codes "value" ∷ []

-- Returns an argument without a name. `parameter` is what the argument becomes.
abbrev argument : Arg → Named
argument it = record { name = None; arg = it }

abbrev parameter : Value → Param
parameter it = record { name = None; value = it }

-- Returns the entry of call n of the transaction.
abbrev answered : ℕ → DriverCall → DriverAnswer → Event
answered n call answer = within 1 2 1 n call answer

-- Returns the part in which call n executes a text with these arguments. The text has inputs, so the driver
-- prepares it first and answers with this handle.
abbrev executes : ℕ → ℕ → List ℕ → List Named → List Param → Part
executes n handle it arguments params =
    part (Client 1 (ops.Exec (Label x1) it arguments))
    (Entered 1 n (ops.Exec (Label x1) it arguments)
    ∷ answered n (Exec (Text it) params) Skip
    ∷ answered n (Prepare it) (Prepared handle (pos 2))
    ∷ answered n (Exec (Handle handle) params) one_changed
    ∷ answered n (CloseStmt handle) Done
    ∷ is_told n
    ∷ [])

abbrev asks : Op
asks = ops.Query r1 (Label x1) lists (argument (args.Text e1) ∷ [])

abbrev looked_for : List Param
looked_for = parameter (values.Text e1) ∷ []

abbrev scans : Op
scans = ops.Scan r1 (dests.Text ∷ dests.NullText ∷ [])

-- A transaction is begun and three texts are executed in it. A query finds one row, and the commit closes the
-- rows before the layer sends it.
abbrev pub one_block : Played
one_block =
    played
    (part (calls_begin 1 x1) (begins_first x1)
    ∷ executes 2 1 sets (argument (args.Text (codes "u1")) ∷ argument (args.Text (codes "Ann")) ∷ [])
    (parameter (values.Text (codes "u1")) ∷ parameter (values.Text (codes "Ann")) ∷ [])
    ∷ executes 3 2 adds (argument (args.Text (codes "n")) ∷ argument (args.I64 (pos 1)) ∷ [])
    (parameter (values.Text (codes "n")) ∷ parameter (values.Int (pos 1)) ∷ [])
    ∷ executes 4 3 sets (argument (args.Text e1) ∷ argument args.Nil ∷ [])
    (parameter (values.Text e1) ∷ parameter values.Nil ∷ [])
    ∷ part (Client 1 asks) (Entered 1 5 asks
    ∷ answered 5 (Query (Text lists) looked_for) Skip
    ∷ answered 5 (Prepare lists) (Prepared 4 (pos 1))
    ∷ answered 5 (Query (Handle 4) looked_for) (Cursor 1 columns)
    ∷ Replied 5 (Rows columns)
    ∷ [])
    ∷ part (Client 1 (ops.Next r1)) (Entered 1 6 (ops.Next r1)
    ∷ answered 6 (Next 1) (Row (values.Text e1 ∷ values.Nil ∷ []))
    ∷ Replied 6 (Truth true)
    ∷ [])
    ∷ part (Client 1 scans) (Entered 1 7 scans
    ∷ Replied 7 (Cells (cells.Text e1 ∷ cells.Null ∷ []))
    ∷ [])
    ∷ part (calls_commit 1 x1) (commits 1 8 x1
    ∷ answered 8 (CloseRows 1) Done
    ∷ answered 8 (CloseStmt 4) Done
    ∷ committed 1 2 1 8
    ∷ tests 1 2 1 8
    ∷ back 1
    ∷ is_done 8
    ∷ [])
    ∷ [])
    (Ended
    ∷ close 1 DbClosed
    ∷ shuts 1 3
    ∷ gone 1
    ∷ [])
