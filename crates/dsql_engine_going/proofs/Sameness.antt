-- A reply is like itself.
use Rattle.std.proofs.Common.{◌≡◌, ℕ, true, List, [], ◌∷◌, refl}
use Rattle.dsql_laws_calls.specs.cancel.declared.token.Cause.{Cause}
use Rattle.dsql_laws_calls.specs.cancel.declared.token.Cause.TheVariants as causes
use Rattle.dsql_laws_calls.specs.rows.declared.end.RowsOver.{RowsOver}
use Rattle.dsql_laws_calls.specs.rows.declared.end.RowsOver.TheVariants as overs
use Rattle.dsql_laws_calls.specs.scan.declared.cell.Cell.{Cell}
use Rattle.dsql_laws_calls.specs.scan.declared.cell.Cell.TheVariants as cells
use Rattle.dsql_laws_calls.specs.pool.declared.stats.Stats.{Stats}
use Rattle.dsql_laws_calls.specs.tx.declared.end.TxEnd.{TxEnd}
use Rattle.dsql_laws_calls.specs.tx.declared.end.TxEnd.TheVariants as tx_ends
use Rattle.dsql_laws_calls.specs.works.Same.{same_cell, same_cells}
use Rattle.dsql_laws_calls.specs.works.declared.fault_word.FaultWord.{FaultWord}
use Rattle.dsql_laws_calls.specs.works.declared.fault_word.FaultWord.TheVariants as words
use Rattle.dsql_laws_calls.specs.works.Replies.{same_word, same_cancel_cause, same_over, same_columns}
use Rattle.dsql_laws_calls.specs.history.Same.{same_end, same_stats, same_reply, same_tx_end}
use Rattle.dsql_laws_calls.specs.history.declared.reply.DbEnd.{DbEnd}
use Rattle.dsql_laws_calls.specs.history.declared.reply.DbEnd.TheVariants as ends
use Rattle.dsql_laws_calls.specs.history.declared.reply.Reply.{Reply}
use Rattle.dsql_laws_calls.specs.history.declared.reply.Reply.TheVariants as replies
use Rattle.dsql_laws_calls.proofs.laws.Tests.{same_itself}
use Rattle.dsql_laws_calls.proofs.Itself.{bytes_itself, int_itself, level_itself, truth_itself}

cell_itself : (cell : Cell) → same_cell cell cell ≡ true
cell_itself cells.Null = refl
cell_itself (cells.Text text) = bytes_itself text
cell_itself (cells.Bytes bytes) = bytes_itself bytes
cell_itself (cells.Bool truth) = truth_itself truth
cell_itself (cells.Int n) = int_itself n
cell_itself (cells.Uint n) = same_itself n
cell_itself (cells.Time n) = int_itself n

cells_itself : (row : List Cell) → same_cells row row ≡ true
cells_itself [] = refl
cells_itself (cell ∷ row) = rw (cell_itself cell) (cells_itself row)

word_itself : (fault : FaultWord) → same_word fault fault ≡ true
word_itself words.FromNull = refl
word_itself _ = refl

cause_itself : (cause : Cause) → same_cancel_cause cause cause ≡ true
cause_itself causes.Canceled = refl
cause_itself causes.Deadline = refl

over_itself : (by : RowsOver) → same_over by by ≡ true
over_itself (overs.Cancel cause) = cause_itself cause
over_itself _ = refl

columns_itself : (columns : List (List ℕ)) → same_columns columns columns ≡ true
columns_itself [] = refl
columns_itself (column ∷ columns) = rw (bytes_itself column) (columns_itself columns)

end_itself : (end : DbEnd) → same_end end end ≡ true
end_itself ends.Close = refl
end_itself ends.EndOfRun = refl

tx_end_itself : (end : TxEnd) → same_tx_end end end ≡ true
tx_end_itself (tx_ends.Cancel cause) = cause_itself cause
tx_end_itself _ = refl

stats_itself : (s : Stats) → same_stats s s ≡ true
stats_itself s =
    rw (same_itself s.max_open_connections, same_itself s.open_connections, same_itself s.in_use, same_itself s.idle, same_itself s.wait_count, same_itself s.wait_duration, same_itself s.max_idle_closed, same_itself s.max_idle_time_closed, same_itself s.max_lifetime_closed)
    refl

pub reply_itself : (r : Reply) → same_reply r r ≡ true
reply_itself (replies.Result l a) = rw (int_itself l, int_itself a) refl
reply_itself (replies.Rows columns) = columns_itself columns
reply_itself (replies.Truth truth) = truth_itself truth
reply_itself (replies.Cells cells) = cells_itself cells
reply_itself (replies.Driver t) = bytes_itself t
reply_itself (replies.BadConn n) = same_itself n
reply_itself (replies.NumArgs want got) = rw (same_itself want, same_itself got) refl
reply_itself (replies.HighBit n) = same_itself n
reply_itself (replies.NamedRefused name) = bytes_itself name
reply_itself (replies.BadName name) = bytes_itself name
reply_itself (replies.Absent label) = bytes_itself label
reply_itself (replies.TxDone by) = tx_end_itself by
reply_itself (replies.RowsClosed by) = over_itself by
reply_itself (replies.Isolation level) = level_itself level
reply_itself (replies.DestCount want got) = rw (same_itself want, same_itself got) refl
reply_itself (replies.Scan column fault) = rw (same_itself column) (word_itself fault)
reply_itself (replies.DbClosed end) = end_itself end
reply_itself (replies.Stats s) = stats_itself s
reply_itself _ = refl
