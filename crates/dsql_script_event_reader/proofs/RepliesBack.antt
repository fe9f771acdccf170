-- A reply that a line shows is read as this reply: the proof has a case for each form of reply.
use Rattle.std.proofs.Common.{◌≡◌, ℕ, List, All, Some, lit<, refl, arith}
use Rattle.dsql_history.specs.pool.declared.stats.Stats.{Stats}
use Rattle.dsql_history.specs.pool.Pooled.{most_open}
use Rattle.dsql_history.specs.scan.declared.cell.Cell.{Cell}
use Rattle.dsql_history.specs.cancel.declared.token.Cause.TheVariants.{Canceled, Deadline}
use Rattle.dsql_history.specs.driver.declared.call.Level.{Level}
use Rattle.dsql_history.specs.driver.declared.call.Level.TheVariants as level
use Rattle.dsql_history.specs.rows.declared.end.RowsOver.{RowsOver}
use Rattle.dsql_history.specs.rows.declared.end.RowsOver.TheVariants as over
use Rattle.dsql_history.specs.tx.declared.end.TxEnd.{TxEnd}
use Rattle.dsql_history.specs.tx.declared.end.TxEnd.TheVariants as tx_end
use Rattle.dsql_history.specs.works.declared.fault_word.FaultWord.{FaultWord}
use Rattle.dsql_history.specs.works.declared.fault_word.FaultWord.TheVariants as fault
use Rattle.dsql_history.specs.declared.reply.DbEnd.{DbEnd}
use Rattle.dsql_history.specs.declared.reply.DbEnd.TheVariants as db_end
use Rattle.dsql_script_spelling.specs.LineValues.{cell_data, cells_data, texts_data}
use Rattle.dsql_script_report.specs.LineCalls.{level_word}
use Rattle.dsql_script_report.specs.LineReplies.{over_word, fault_word, db_end_word, stats_data, tx_end_word, reply_data}
use Rattle.dsql_script_read_back.proofs.ReadNumbers.{as_i64_signed}
use Rattle.dsql_script_read_back.proofs.ReadTexts.{IsRead, deeper}
use Rattle.dsql_script_event_reader.specs.DriverForms.{level_of}
use Rattle.dsql_script_event_reader.specs.ReplyForms.{over_of, fault_of, db_end_of, tx_end_of, reply_of}
use Rattle.dsql_script_event_reader.specs.Values.{cell_of}
use Rattle.dsql_script_event_reader.specs.Fits.{CellFits, StatsFit, ReplyFits}
use Rattle.dsql_script_event_reader.proofs.MovesBack.{in_word}
use Rattle.dsql_script_event_reader.proofs.Spelled.{list_is_read, also, no_more, mapped_are_read, texts_are_read, natural_spelled, number_spelled, integer_spelled, string_spelled, boolean_spelled}
use Rattle.dsql_script_event_reader.proofs.ValuesBack.{each_is_read_back, texts_are_read_back, cell_is_read_back, cell_is_read}
use Rattle.dsql_history.specs.declared.reply.Reply.{Reply}
use Rattle.dsql_history.specs.declared.reply.Reply.TheVariants as reply

over_is_read_back : (o : RowsOver) → over_of (over_word o) ≡ Some o
over_is_read_back (over.Cancel Canceled) = refl
over_is_read_back (over.Cancel Deadline) = refl
over_is_read_back _ = refl

tx_end_is_read_back : (e : TxEnd) → tx_end_of (tx_end_word e) ≡ Some e
tx_end_is_read_back (tx_end.Cancel Canceled) = refl
tx_end_is_read_back (tx_end.Cancel Deadline) = refl
tx_end_is_read_back _ = refl

level_is_read_back : (l : Level) → level_of (level_word l) ≡ Some l
level_is_read_back level.Default = refl
level_is_read_back _ = refl

fault_is_read_back : (f : FaultWord) → fault_of (fault_word f) ≡ Some f
fault_is_read_back fault.FromNull = refl
fault_is_read_back _ = refl

db_end_is_read_back : (e : DbEnd) → db_end_of (db_end_word e) ≡ Some e
db_end_is_read_back db_end.Close = refl
db_end_is_read_back db_end.EndOfRun = refl

pub reply_is_read_back : (r : Reply) → ReplyFits r → reply_of (reply_data r) ≡ Some r
reply_is_read_back (reply.Result last affected) fits = rw (as_i64_signed last fits.0, as_i64_signed affected fits.1) refl
reply_is_read_back (reply.Rows columns) fits = rw (texts_are_read_back columns) refl
reply_is_read_back (reply.Cells cells) fits = rw (each_is_read_back cell_of cell_data CellFits cell_is_read_back cells fits) refl
reply_is_read_back (reply.BadConn tries) fits = rw (in_word tries fits) refl
reply_is_read_back (reply.NumArgs want got) fits = rw (in_word want fits.0, in_word got fits.1) refl
reply_is_read_back (reply.TxDone by) fits = rw (tx_end_is_read_back by) refl
reply_is_read_back (reply.RowsClosed over) fits = rw (over_is_read_back over) refl
reply_is_read_back (reply.Isolation level) fits = rw (level_is_read_back level) refl
reply_is_read_back (reply.DestCount want got) fits = rw (in_word want fits.0, in_word got fits.1) refl
reply_is_read_back (reply.Scan column fault) fits = rw (in_word column fits, fault_is_read_back fault) refl
reply_is_read_back (reply.DbClosed end) fits = rw (db_end_is_read_back end) refl
reply_is_read_back _ fits = refl

cells_are_read : (cells : List Cell) → All CellFits cells → IsRead 3 (cells_data cells)
cells_are_read cells fit = list_is_read (mapped_are_read 2 cell_data CellFits (λ c fits. deeper 1 2 (cell_data c) (omega arith) (cell_is_read c fits)) cells fit)

columns_are_read : (columns : List (List ℕ)) → IsRead 3 (texts_data columns)
columns_are_read columns = list_is_read (texts_are_read 2 columns)

stats_are_read : (s : Stats) → StatsFit s → IsRead 3 (stats_data s)
stats_are_read s fit = list_is_read (also (natural_spelled 2 s.max_open_connections fit.0.0) (also (natural_spelled 2 s.open_connections fit.0.1) (also (natural_spelled 2 s.in_use fit.0.2) (also (natural_spelled 2 s.idle fit.1.0) (also (natural_spelled 2 s.wait_count fit.1.1) (also (natural_spelled 2 s.wait_duration fit.1.2) (also (natural_spelled 2 s.max_idle_closed fit.2.0) (also (natural_spelled 2 s.max_idle_time_closed fit.2.1) (also (natural_spelled 2 s.max_lifetime_closed fit.2.2) no_more)))))))))

pub reply_is_read : (r : Reply) → ReplyFits r → IsRead 4 (reply_data r)
reply_is_read reply.Ok fits = list_is_read (also (string_spelled 3 _) no_more)
reply_is_read (reply.Result last affected) fits = list_is_read (also (string_spelled 3 _) (also (string_spelled 3 _) (also (integer_spelled 3 last fits.0) (also (integer_spelled 3 affected fits.1) no_more))))
reply_is_read (reply.Rows columns) fits = list_is_read (also (string_spelled 3 _) (also (string_spelled 3 _) (also (columns_are_read columns) no_more)))
reply_is_read (reply.Truth truth) fits = list_is_read (also (string_spelled 3 _) (also (boolean_spelled 3 truth) no_more))
reply_is_read (reply.Cells cells) fits = list_is_read (also (string_spelled 3 _) (also (string_spelled 3 _) (also (cells_are_read cells fits) no_more)))
reply_is_read (reply.Driver text) fits = list_is_read (also (string_spelled 3 _) (also (string_spelled 3 _) (also (string_spelled 3 text) no_more)))
reply_is_read (reply.BadConn tries) fits = list_is_read (also (string_spelled 3 _) (also (string_spelled 3 _) (also (number_spelled 3 tries fits) (also (string_spelled 3 _) no_more))))
reply_is_read (reply.NumArgs want got) fits = list_is_read (also (string_spelled 3 _) (also (string_spelled 3 _) (also (number_spelled 3 want fits.0) (also (number_spelled 3 got fits.1) (also (string_spelled 3 _) no_more)))))
reply_is_read (reply.HighBit n) fits = list_is_read (also (string_spelled 3 _) (also (string_spelled 3 _) (also (natural_spelled 3 n fits) (also (string_spelled 3 _) no_more))))
reply_is_read (reply.NamedRefused name) fits = list_is_read (also (string_spelled 3 _) (also (string_spelled 3 _) (also (string_spelled 3 name) (also (string_spelled 3 _) no_more))))
reply_is_read (reply.BadName name) fits = list_is_read (also (string_spelled 3 _) (also (string_spelled 3 _) (also (string_spelled 3 name) (also (string_spelled 3 _) no_more))))
reply_is_read (reply.Absent label) fits = list_is_read (also (string_spelled 3 _) (also (string_spelled 3 _) (also (string_spelled 3 label) (also (string_spelled 3 _) no_more))))
reply_is_read reply.ReadOnly fits = list_is_read (also (string_spelled 3 _) (also (string_spelled 3 _) (also (string_spelled 3 _) no_more)))
reply_is_read reply.NoNextYet fits = list_is_read (also (string_spelled 3 _) (also (string_spelled 3 _) (also (string_spelled 3 _) no_more)))
reply_is_read reply.NoRows fits = list_is_read (also (string_spelled 3 _) (also (string_spelled 3 _) (also (string_spelled 3 _) no_more)))
reply_is_read (reply.DestCount want got) fits = list_is_read (also (string_spelled 3 _) (also (string_spelled 3 _) (also (number_spelled 3 want fits.0) (also (number_spelled 3 got fits.1) (also (string_spelled 3 _) no_more)))))
reply_is_read (reply.Scan column fault) fits = list_is_read (also (string_spelled 3 _) (also (string_spelled 3 _) (also (number_spelled 3 column fits) (also (string_spelled 3 _) (also (string_spelled 3 _) no_more)))))
reply_is_read reply.TooMany fits = list_is_read (also (string_spelled 3 _) (also (string_spelled 3 _) (also (number_spelled 3 most_open (lit< tt)) (also (string_spelled 3 _) no_more))))
reply_is_read (reply.Stats stats) fits = list_is_read (also (string_spelled 3 _) (also (string_spelled 3 _) (also (stats_are_read stats fits) no_more)))
reply_is_read _ fits = list_is_read (also (string_spelled 3 _) (also (string_spelled 3 _) (also (string_spelled 3 _) (also (string_spelled 3 _) no_more))))
