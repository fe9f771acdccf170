-- Defines tests that two replies are the same, and that two moves are.
use Rattle.std.specs.Prelude.{◌==◌, Bool, true, false, ◌&&◌, List, [], ◌∷◌, Option, Some, None, bytes_eq}
use Rattle.dsql_history_work.specs.journal.Kinds.{same_owner}
use Rattle.dsql_pool.specs.declared.moves.CloseCause.{CloseCause}
use Rattle.dsql_pool.specs.declared.moves.CloseCause.TheVariants.{Bad, Invalid, OverLimit, IdleFull, Lifetime, IdleTime, Discarded}
use Rattle.dsql_pool.specs.declared.moves.CloseCause.TheVariants as causes
use Rattle.dsql_pool.specs.declared.moves.Move.{Move}
use Rattle.dsql_pool.specs.declared.moves.Move.TheVariants.{OpenStart, Lend, Back, CloseStart, Gone, Fell}
use Rattle.dsql_pool.specs.declared.stats.Stats.{Stats}
use Rattle.dsql_history.specs.declared.reply.DbEnd.{DbEnd}
use Rattle.dsql_history.specs.declared.reply.DbEnd.TheVariants as db_ends
use Rattle.std.specs.Ordering.{int_eq}
use Rattle.dsql_history_work.specs.driver.declared.call.Level.{Level}
use Rattle.dsql_history_work.specs.driver.declared.call.Level.TheVariants as levels
use Rattle.dsql_tx.specs.declared.end.TxEnd.{TxEnd}
use Rattle.dsql_tx.specs.declared.end.TxEnd.TheVariants as ends
use Rattle.dsql_history_work.specs.Same.{same_truth, same_cells}
use Rattle.dsql_history_work.specs.Replies.{same_word, same_over, same_columns, same_cancel_cause}
use Rattle.dsql_history.specs.declared.reply.Reply.{Reply}
use Rattle.dsql_history.specs.declared.reply.Reply.TheVariants as reply
use Rattle.dsql_history.specs.declared.reply.Reply.TheVariants.{Result, Rows, Truth, Cells, Driver, BadConn, NumArgs, HighBit, NamedRefused, BadName, Absent, TxDone, RowsClosed, Isolation, ReadOnly, NoNextYet, NoRows, DestCount, Scan, TooMany, DbClosed}

abbrev pub same_cause : CloseCause → CloseCause → Bool
same_cause Bad Bad = true
same_cause Invalid Invalid = true
same_cause OverLimit OverLimit = true
same_cause IdleFull IdleFull = true
same_cause Lifetime Lifetime = true
same_cause IdleTime IdleTime = true
same_cause causes.DbClosed causes.DbClosed = true
same_cause Discarded Discarded = true
same_cause _ _ = false

abbrev pub same_move : Move → Move → Bool
same_move (OpenStart c n) (OpenStart d m) = (c == d) && (n == m)
same_move (Lend c tenure owner n) (Lend d other holder m) =
    (c == d) && ((tenure == other) && (same_owner owner holder && (n == m)))
same_move (Back c) (Back d) = c == d
same_move (CloseStart c cause) (CloseStart d other) = (c == d) && same_cause cause other
same_move (Gone c) (Gone d) = c == d
same_move (Fell c n) (Fell d m) = (c == d) && (n == m)
same_move _ _ = false

-- Is true if this move is the first of these moves.
abbrev pub is_first : List Move → Move → Bool
is_first [] move = false
is_first (first ∷ later) move = same_move first move

abbrev pub same_end : DbEnd → DbEnd → Bool
same_end db_ends.Close db_ends.Close = true
same_end db_ends.EndOfRun db_ends.EndOfRun = true
same_end _ _ = false

abbrev pub same_stats : Stats → Stats → Bool
same_stats a b =
    (a.max_open_connections == b.max_open_connections)
    && (a.open_connections == b.open_connections)
    && (a.in_use == b.in_use)
    && (a.idle == b.idle)
    && (a.wait_count == b.wait_count)
    && (a.wait_duration == b.wait_duration)
    && (a.max_idle_closed == b.max_idle_closed)
    && (a.max_idle_time_closed == b.max_idle_time_closed)
    && (a.max_lifetime_closed == b.max_lifetime_closed)

abbrev pub same_level : Level → Level → Bool
same_level levels.Default levels.Default = true
same_level levels.ReadUncommitted levels.ReadUncommitted = true
same_level levels.ReadCommitted levels.ReadCommitted = true
same_level levels.WriteCommitted levels.WriteCommitted = true
same_level levels.RepeatableRead levels.RepeatableRead = true
same_level levels.Snapshot levels.Snapshot = true
same_level levels.Serializable levels.Serializable = true
same_level levels.Linearizable levels.Linearizable = true
same_level _ _ = false

abbrev pub same_tx_end : TxEnd → TxEnd → Bool
same_tx_end ends.Commit ends.Commit = true
same_tx_end ends.Rollback ends.Rollback = true
same_tx_end (ends.Cancel cause) (ends.Cancel other) = same_cancel_cause cause other
same_tx_end ends.EndOfRun ends.EndOfRun = true
same_tx_end _ _ = false

abbrev pub same_reply : Reply → Reply → Bool
same_reply (Result last affected) (Result other count) = int_eq last other && int_eq affected count
same_reply reply.Ok reply.Ok = true
same_reply (Rows columns) (Rows others) = same_columns columns others
same_reply (Truth truth) (Truth other) = same_truth truth other
same_reply (Cells cells) (Cells others) = same_cells cells others
same_reply (Driver text) (Driver other) = bytes_eq text other
same_reply (BadConn tries) (BadConn number) = tries == number
same_reply (NumArgs want got) (NumArgs number count) = (want == number) && (got == count)
same_reply (HighBit number) (HighBit other) = number == other
same_reply (NamedRefused name) (NamedRefused other) = bytes_eq name other
same_reply (BadName name) (BadName other) = bytes_eq name other
same_reply (Absent label) (Absent other) = bytes_eq label other
same_reply (TxDone by) (TxDone other) = same_tx_end by other
same_reply (RowsClosed by) (RowsClosed other) = same_over by other
same_reply (Isolation level) (Isolation other) = same_level level other
same_reply ReadOnly ReadOnly = true
same_reply NoNextYet NoNextYet = true
same_reply NoRows NoRows = true
same_reply (DestCount want got) (DestCount number count) = (want == number) && (got == count)
same_reply (Scan column fault) (Scan place word) = (column == place) && same_word fault word
same_reply TooMany TooMany = true
same_reply (DbClosed by) (DbClosed other) = same_end by other
same_reply (reply.Stats stats) (reply.Stats others) = same_stats stats others
same_reply _ _ = false

-- Is true if there is a reply and it is this one.
abbrev pub is_reply : Option Reply → Reply → Bool
is_reply None reply = false
is_reply (Some due) reply = same_reply due reply
