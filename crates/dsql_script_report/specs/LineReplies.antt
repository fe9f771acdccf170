-- Defines how a report writes replies.
use Rattle.std.specs.Prelude.{ℕ, List, [], ◌∷◌, ◌++◌, map, codes, decimal}
use Rattle.serde_json.specs.Data.{Data, boolean, string}
use Rattle.dsql_history.specs.pool.declared.stats.Stats.{Stats}
use Rattle.dsql_history.specs.cancel.declared.token.Cause.{Cause}
use Rattle.dsql_history.specs.cancel.declared.token.Cause.TheVariants.{Canceled, Deadline}
use Rattle.dsql_history.specs.rows.declared.end.RowsOver.{RowsOver}
use Rattle.dsql_history.specs.rows.declared.end.RowsOver.TheVariants.{Close, EndOfRows, TxEnded, Cancel, Failed, BadConn, EndOfRun}
use Rattle.dsql_history.specs.works.declared.fault_word.FaultWord.{FaultWord}
use Rattle.dsql_history.specs.works.declared.fault_word.FaultWord.TheVariants.{FromNull, NotANumber, OutOfRange, NotABool, NotUtf8, Unsupported}
use Rattle.dsql_history.specs.declared.reply.DbEnd.{DbEnd}
use Rattle.dsql_history.specs.declared.reply.DbEnd.TheVariants as db_end
use Rattle.dsql_script_spelling.specs.LineValues.{list_data, natural, worded, integer, texts_data, cells_data}
use Rattle.dsql_history.specs.pool.Pooled.{most_open}
use Rattle.dsql_history.specs.tx.declared.end.TxEnd.{TxEnd}
use Rattle.dsql_history.specs.tx.declared.end.TxEnd.TheVariants as tx_ends
use Rattle.dsql_history.specs.declared.reply.Reply.{Reply}
use Rattle.dsql_history.specs.declared.reply.Reply.TheVariants as reply
use Rattle.dsql_script_report.specs.LineCalls.{level_word}

-- Returns the text that says how many inputs a statement has, and how many arguments there were.
abbrev pub num_args_text : ℕ → ℕ → List ℕ
num_args_text want got = codes "sql: expected " ++ (decimal want ++ (codes " arguments, got " ++ decimal got))

-- Returns the text that says how many values a row has, and how many destinations there were.
abbrev pub dest_count_text : ℕ → ℕ → List ℕ
dest_count_text want got =
    codes "sql: expected " ++ (decimal want ++ (codes " destination arguments in Scan, not " ++ decimal got))

abbrev pub fault_word : FaultWord → List ℕ
fault_word FromNull = codes "from_null"
fault_word NotANumber = codes "not_a_number"
fault_word OutOfRange = codes "out_of_range"
fault_word NotABool = codes "not_a_bool"
fault_word NotUtf8 = codes "not_utf8"
fault_word Unsupported = codes "unsupported"

abbrev pub scan_text : ℕ → FaultWord → List ℕ
scan_text column fault = codes "sql: scan of column " ++ (decimal column ++ (codes ": " ++ fault_word fault))

-- Returns the word for why a token is cancelled.
abbrev pub cancel_word : Cause → List ℕ
cancel_word Canceled = codes "canceled"
cancel_word Deadline = codes "deadline"

-- Returns the word for what ended rows.
abbrev pub over_word : RowsOver → List ℕ
over_word Close = codes "close"
over_word EndOfRows = codes "end_of_rows"
over_word TxEnded = codes "tx"
over_word (Cancel cause) = cancel_word cause
over_word Failed = codes "failed"
over_word BadConn = codes "bad"
over_word EndOfRun = codes "end"

-- Returns the word for what closed the database.
abbrev pub db_end_word : DbEnd → List ℕ
db_end_word db_end.Close = codes "close"
db_end_word db_end.EndOfRun = codes "end"

-- Returns the nine numbers of Go's `DBStats`, in its order.
abbrev pub numbers_of : Stats → List ℕ
numbers_of s =
    s.max_open_connections ∷ s.open_connections ∷ s.in_use ∷ s.idle ∷ s.wait_count ∷ s.wait_duration
    ∷ s.max_idle_closed ∷ s.max_idle_time_closed ∷ s.max_lifetime_closed ∷ []

abbrev pub stats_data : Stats → Data
stats_data s = list_data (map natural (numbers_of s))

-- Returns the word for what ended a transaction.
abbrev pub tx_end_word : TxEnd → List ℕ
tx_end_word tx_ends.Commit = codes "commit"
tx_end_word tx_ends.Rollback = codes "rollback"
tx_end_word (tx_ends.Cancel cause) = cancel_word cause
tx_end_word tx_ends.EndOfRun = codes "end"

-- Returns the array of a reply. An error has its code, what it shows, and its text.
abbrev pub reply_data : Reply → Data
reply_data reply.Ok = worded (codes "ok") []
reply_data (reply.Result last affected) =
    worded (codes "ok") (string (codes "result") ∷ integer last ∷ integer affected ∷ [])
reply_data (reply.Rows columns) = worded (codes "ok") (string (codes "rows") ∷ texts_data columns ∷ [])
reply_data (reply.Truth truth) = worded (codes "ok") (boolean truth ∷ [])
reply_data (reply.Cells cells) = worded (codes "ok") (string (codes "cells") ∷ cells_data cells ∷ [])
reply_data (reply.Driver text) = worded (codes "err") (string (codes "driver") ∷ string text ∷ [])
reply_data (reply.BadConn tries) =
    worded (codes "err") (string (codes "bad_conn") ∷ natural tries ∷ string (codes "driver: bad connection") ∷ [])
reply_data (reply.NumArgs want got) =
    worded (codes "err") (string (codes "num_args") ∷ natural want ∷ natural got ∷ string (num_args_text want got) ∷ [])
reply_data (reply.HighBit n) =
    worded (codes "err")
    (string (codes "high_bit") ∷ natural n ∷ string (codes "sql: unsigned value has its high bit set") ∷ [])
reply_data (reply.NamedRefused name) =
    worded (codes "err")
    (string (codes "named") ∷ string name ∷ string
    (codes "sql: driver does not support the use of Named Parameters") ∷ [])
reply_data (reply.BadName name) =
    worded (codes "err")
    (string (codes "bad_name") ∷ string name ∷ string (codes "sql: name does not begin with a letter") ∷ [])
reply_data (reply.Absent label) =
    worded (codes "err") (string (codes "absent") ∷ string label ∷ string (codes "sql: no value has this label") ∷ [])
reply_data (reply.TxDone by) =
    worded (codes "err") (string (codes "tx_done") ∷ string (tx_end_word by) ∷ string
    (codes "sql: transaction has already been committed or rolled back") ∷ [])
reply_data (reply.RowsClosed over) =
    worded (codes "err") (string (codes "rows_closed") ∷ string (over_word over) ∷ string
    (codes "sql: Rows are closed") ∷ [])
reply_data (reply.Isolation level) =
    worded (codes "err") (string (codes "isolation") ∷ string (level_word level) ∷ string
    (codes "sql: driver does not support non-default isolation level") ∷ [])
reply_data reply.ReadOnly =
    worded (codes "err")
    (string (codes "read_only") ∷ string (codes "sql: driver does not support read-only transactions") ∷ [])
reply_data reply.NoNextYet =
    worded (codes "err") (string (codes "no_next") ∷ string (codes "sql: Scan called without calling Next") ∷ [])
reply_data reply.NoRows =
    worded (codes "err") (string (codes "no_rows") ∷ string (codes "sql: no rows in result set") ∷ [])
reply_data (reply.DestCount want got) =
    worded (codes "err") (string (codes "dest_count") ∷ natural want ∷ natural got ∷ string
    (dest_count_text want got) ∷ [])
reply_data (reply.Scan column fault) =
    worded (codes "err") (string (codes "scan") ∷ natural column ∷ string (fault_word fault) ∷ string
    (scan_text column fault) ∷ [])
reply_data reply.TooMany =
    worded (codes "err") (string (codes "too_many") ∷ natural most_open ∷ string
    (codes "sql: too many open connections") ∷ [])
reply_data (reply.DbClosed end) =
    worded (codes "err") (string (codes "db_closed") ∷ string (db_end_word end) ∷ string
    (codes "sql: database is closed") ∷ [])
reply_data (reply.Stats stats) = worded (codes "ok") (string (codes "stats") ∷ stats_data stats ∷ [])
