-- Defines lines of calls, of driver calls, of moves and of replies, for the worked examples.
use Rattle.dsql_history.specs.pool.declared.stats.Stats.{Stats}
use Rattle.std.specs.Prelude.{ℕ, List, [], codes}
use Rattle.dsql_history.specs.value.declared.arg.Named.{Named}
use Rattle.dsql_history.specs.scan.declared.dest.Dest.{Dest}
use Rattle.dsql_history.specs.driver.declared.call.DriverCall.{DriverCall}
use Rattle.dsql_history.specs.driver.declared.answer.DriverAnswer.{DriverAnswer}
use Rattle.dsql_history.specs.journal.declared.entry.Owner.TheVariants.{Tx}
use Rattle.dsql_history.specs.pool.declared.moves.CloseCause.{CloseCause}
use Rattle.dsql_history.specs.pool.declared.moves.Move.{Move}
use Rattle.dsql_history.specs.pool.declared.moves.Move.TheVariants.{CloseStart}
use Rattle.dsql_history.specs.declared.event.Op.{Op}
use Rattle.dsql_history.specs.declared.event.Op.TheVariants.{Exec, One}
use Rattle.dsql_history.specs.declared.event.Target.TheVariants.{Label}
use Rattle.dsql_history.specs.declared.event.Event.TheVariants.{Entered, Heard, Pool, Replied}
use Rattle.dsql_history.specs.declared.reply.Reply.{Reply}
use Rattle.dsql_script_report.specs.Lines.{line_of}

-- Returns statistics in which the time waited is the greatest number of its type.
abbrev pub counted : Stats
counted = record {
  max_open_connections = 2;
  open_connections = 1;
  in_use = 1;
  idle = 0;
  wait_count = 4;
  wait_duration = 18446744073709551615;
  max_idle_closed = 5;
  max_idle_time_closed = 6;
  max_lifetime_closed = 7;
}

-- Returns the line of client 1's call 3: an exec of `SET a ?` with these arguments in a transaction.
abbrev pub exec_line : List Named → List ℕ
exec_line args = line_of (Entered 1 3 (Exec (Label (codes "x")) (codes "SET a ?") args))

-- Returns the line of client 1's call 2, which reads one row of `GET a` in a transaction into these
-- destinations.
abbrev pub one_line : List Dest → List ℕ
one_line dests = line_of (Entered 1 2 (One (Label (codes "x")) dests (codes "GET a") []))

-- Returns the line of client 1's call 4.
abbrev pub entered_line : Op → List ℕ
entered_line op = line_of (Entered 1 4 op)

-- Returns the line of a driver call with its answer. The layer made it for call 2 in the transaction of call 1,
-- on connection 1 in tenure 4.
abbrev pub heard_line : DriverCall → DriverAnswer → List ℕ
heard_line call answer =
    line_of (Heard (record { conn = 1; tenure = 4; owner = Tx 1; call_no = 2; tx = 1; call = call; answer = answer }))

abbrev pub move_line : Move → List ℕ
move_line move = line_of (Pool move)

-- Returns the line that says that connection 2 begins to be closed for this cause.
abbrev pub close_line : CloseCause → List ℕ
close_line cause = move_line (CloseStart 2 cause)

-- Returns the line of a reply to call 3.
abbrev pub reply_line : Reply → List ℕ
reply_line reply = line_of (Replied 3 reply)
