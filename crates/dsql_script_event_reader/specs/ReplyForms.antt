-- Defines how replies are read.
use Rattle.std.specs.Prelude.{ℕ, List, codes, if◌then◌else◌, Option, Some, None, option_map, option_and_then}
use Rattle.std.specs.Str.{bytes_eq}
use Rattle.serde_json.specs.Data.{Data, null, boolean, number, string, array, object}
use Rattle.dsql_history.specs.pool.declared.stats.Stats.{Stats}
use Rattle.dsql_history.specs.cancel.declared.token.Cause.TheVariants.{Canceled, Deadline}
use Rattle.dsql_history.specs.rows.declared.end.RowsOver.{RowsOver}
use Rattle.dsql_history.specs.rows.declared.end.RowsOver.TheVariants as over
use Rattle.dsql_history.specs.works.declared.fault_word.FaultWord.{FaultWord}
use Rattle.dsql_history.specs.works.declared.fault_word.FaultWord.TheVariants as fault
use Rattle.dsql_history.specs.declared.reply.DbEnd.{DbEnd}
use Rattle.dsql_history.specs.declared.reply.DbEnd.TheVariants as db_end
use Rattle.dsql_script_event_lines.specs.Parts.{natural_at, number_at, integer_at, text_at, list_at}
use Rattle.serde_json.specs.Find.{at, as_str}
use Rattle.dsql_history.specs.tx.declared.end.TxEnd.{TxEnd}
use Rattle.dsql_history.specs.tx.declared.end.TxEnd.TheVariants as tx_end
use Rattle.dsql_script_event_reader.specs.Values.{cell_of}
use Rattle.dsql_script_event_reader.specs.DriverForms.{level_of}
use Rattle.dsql_history.specs.declared.reply.Reply.{Reply}
use Rattle.dsql_history.specs.declared.reply.Reply.TheVariants as reply

abbrev pub over_of : List ℕ → Option RowsOver
over_of word =
    if bytes_eq word (codes "close") then Some over.Close
    else if bytes_eq word (codes "end_of_rows") then Some over.EndOfRows
    else if bytes_eq word (codes "tx") then Some over.TxEnded
    else if bytes_eq word (codes "canceled") then Some (over.Cancel Canceled)
    else if bytes_eq word (codes "deadline") then Some (over.Cancel Deadline)
    else if bytes_eq word (codes "failed") then Some over.Failed
    else if bytes_eq word (codes "bad") then Some over.BadConn
    else if bytes_eq word (codes "end") then Some over.EndOfRun
    else None

abbrev pub fault_of : List ℕ → Option FaultWord
fault_of word =
    if bytes_eq word (codes "from_null") then Some fault.FromNull
    else if bytes_eq word (codes "not_a_number") then Some fault.NotANumber
    else if bytes_eq word (codes "out_of_range") then Some fault.OutOfRange
    else if bytes_eq word (codes "not_a_bool") then Some fault.NotABool
    else if bytes_eq word (codes "not_utf8") then Some fault.NotUtf8
    else if bytes_eq word (codes "unsupported") then Some fault.Unsupported
    else None

abbrev pub db_end_of : List ℕ → Option DbEnd
db_end_of word =
    if bytes_eq word (codes "close") then Some db_end.Close
    else if bytes_eq word (codes "end") then Some db_end.EndOfRun
    else None

-- Returns the numbers at these three places.
abbrev pub three_at : ℕ → ℕ → ℕ → Data → Option (ℕ × ℕ × ℕ)
three_at i j k d =
    option_and_then (λ a. option_and_then (λ b. option_map (λ c. (a, b, c)) (natural_at k d)) (natural_at j d))
    (natural_at i d)

abbrev pub counted : (ℕ × ℕ × ℕ) → (ℕ × ℕ × ℕ) → (ℕ × ℕ × ℕ) → Stats
counted limits waits closings = record {
  max_open_connections = limits.0;
  open_connections = limits.1;
  in_use = limits.2;
  idle = waits.0;
  wait_count = waits.1;
  wait_duration = waits.2;
  max_idle_closed = closings.0;
  max_idle_time_closed = closings.1;
  max_lifetime_closed = closings.2;
}

abbrev pub stats_of : Data → Option Stats
stats_of d =
    option_and_then (λ limits. option_and_then (λ waits. option_map (counted limits waits) (three_at 6 7 8 d))
    (three_at 3 4 5 d)) (three_at 0 1 2 d)

-- Returns what ended a transaction, by its word.
abbrev pub tx_end_of : List ℕ → Option TxEnd
tx_end_of word =
    if bytes_eq word (codes "commit") then Some tx_end.Commit
    else if bytes_eq word (codes "rollback") then Some tx_end.Rollback
    else if bytes_eq word (codes "canceled") then Some (tx_end.Cancel Canceled)
    else if bytes_eq word (codes "deadline") then Some (tx_end.Cancel Deadline)
    else if bytes_eq word (codes "end") then Some tx_end.EndOfRun
    else None

abbrev pub result_of : Data → Option Reply
result_of d = option_and_then (λ last. option_map (reply.Result last) (integer_at 3 d)) (integer_at 2 d)

-- Returns a successful reply by its word.
abbrev pub told_by : List ℕ → Data → Option Reply
told_by word d =
    if bytes_eq word (codes "result") then result_of d
    else if bytes_eq word (codes "rows") then option_map reply.Rows (list_at as_str 2 d)
    else if bytes_eq word (codes "cells") then option_map reply.Cells (list_at cell_of 2 d)
    else if bytes_eq word (codes "stats") then option_map reply.Stats (option_and_then stats_of (at 2 d))
    else None

-- Returns a successful reply by what follows `ok`, if anything does.
abbrev pub well_by : Option Data → Data → Option Reply
well_by None d = Some reply.Ok
well_by (Some null) d = None
well_by (Some (boolean b)) d = Some (reply.Truth b)
well_by (Some (number n)) d = None
well_by (Some (string word)) d = told_by word d
well_by (Some (array ds)) d = None
well_by (Some (object ms)) d = None

-- Returns an error with two numbers.
abbrev pub two_numbers : (ℕ → ℕ → Reply) → Data → Option Reply
two_numbers error d = option_and_then (λ want. option_map (error want) (number_at 3 d)) (number_at 2 d)

abbrev pub scan_of : Data → Option Reply
scan_of d =
    option_and_then (λ column. option_map (reply.Scan column) (option_and_then fault_of (text_at 3 d))) (number_at 2 d)

-- Returns an error of a transaction by its code.
abbrev pub tx_error : List ℕ → Data → Option Reply
tx_error code d =
    if bytes_eq code (codes "tx_done") then option_map reply.TxDone (option_and_then tx_end_of (text_at 2 d))
    else if bytes_eq code (codes "isolation") then option_map reply.Isolation (option_and_then level_of (text_at 2 d))
    else if bytes_eq code (codes "read_only") then Some reply.ReadOnly
    else None

-- Returns an error that shows no text of its own, by its code.
abbrev pub plain_error : List ℕ → Data → Option Reply
plain_error code d =
    if bytes_eq code (codes "bad_conn") then option_map reply.BadConn (number_at 2 d)
    else if bytes_eq code (codes "num_args") then two_numbers reply.NumArgs d
    else if bytes_eq code (codes "high_bit") then option_map reply.HighBit (natural_at 2 d)
    else if bytes_eq code (codes "rows_closed") then option_map reply.RowsClosed (option_and_then over_of (text_at 2 d))
    else if bytes_eq code (codes "no_next") then Some reply.NoNextYet
    else if bytes_eq code (codes "no_rows") then Some reply.NoRows
    else if bytes_eq code (codes "dest_count") then two_numbers reply.DestCount d
    else if bytes_eq code (codes "scan") then scan_of d
    else if bytes_eq code (codes "too_many") then Some reply.TooMany
    else if bytes_eq code (codes "db_closed") then option_map reply.DbClosed (option_and_then db_end_of (text_at 2 d))
    else tx_error code d

-- Returns an error by its code.
abbrev pub error_by : List ℕ → Data → Option Reply
error_by code d =
    if bytes_eq code (codes "driver") then option_map reply.Driver (text_at 2 d)
    else if bytes_eq code (codes "named") then option_map reply.NamedRefused (text_at 2 d)
    else if bytes_eq code (codes "bad_name") then option_map reply.BadName (text_at 2 d)
    else if bytes_eq code (codes "absent") then option_map reply.Absent (text_at 2 d)
    else plain_error code d

abbrev pub error_of : Data → Option Reply
error_of d = option_and_then (λ code. error_by code d) (text_at 1 d)

-- Returns a reply by its word.
abbrev pub reply_by : List ℕ → Data → Option Reply
reply_by word d =
    if bytes_eq word (codes "ok") then well_by (at 1 d) d
    else if bytes_eq word (codes "err") then error_of d
    else None

abbrev pub reply_of : Data → Option Reply
reply_of d = option_and_then (λ word. reply_by word d) (text_at 0 d)
