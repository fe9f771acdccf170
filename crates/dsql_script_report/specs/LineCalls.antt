-- Defines how a report writes driver calls and their answers.
use Rattle.std.specs.Prelude.{ℕ, List, [], ◌∷◌, codes}
use Rattle.serde_json.specs.Data.{Data, boolean, string}
use Rattle.dsql_history.specs.driver.declared.call.Level.{Level}
use Rattle.dsql_history.specs.driver.declared.call.Level.TheVariants.{Default, ReadUncommitted, ReadCommitted, WriteCommitted, RepeatableRead, Snapshot, Serializable, Linearizable}
use Rattle.dsql_history.specs.driver.declared.call.Input.{Input}
use Rattle.dsql_history.specs.driver.declared.call.Input.TheVariants.{Text, Handle}
use Rattle.dsql_history.specs.driver.declared.call.DriverCall.{DriverCall}
use Rattle.dsql_history.specs.driver.declared.call.DriverCall.TheVariants.{Connect, Reset, Valid, Ping, Prepare, CloseStmt, Exec, Query, Next, CloseRows, Begin, Commit, Rollback, Shut}
use Rattle.dsql_history.specs.driver.declared.answer.DriverAnswer.{DriverAnswer}
use Rattle.dsql_history.specs.driver.declared.answer.DriverAnswer.TheVariants.{Done, Prepared, Result, Cursor, Row, End, Invalid, Skip, Bad, Fail, Memory}
use Rattle.dsql_script_spelling.specs.LineValues.{worded, natural, integer, params_data, values_data, texts_data}

abbrev pub level_word : Level → List ℕ
level_word Default = codes "default"
level_word ReadUncommitted = codes "read_uncommitted"
level_word ReadCommitted = codes "read_committed"
level_word WriteCommitted = codes "write_committed"
level_word RepeatableRead = codes "repeatable_read"
level_word Snapshot = codes "snapshot"
level_word Serializable = codes "serializable"
level_word Linearizable = codes "linearizable"

-- Returns the data of a statement: its text, or the number of its handle.
abbrev pub input_data : Input → Data
input_data (Text text) = string text
input_data (Handle handle) = natural handle

-- Returns the data of a driver call: its word and what it is made with.
abbrev pub call_data : DriverCall → Data
call_data Connect = worded (codes "connect") []
call_data Reset = worded (codes "reset") []
call_data Valid = worded (codes "valid") []
call_data Ping = worded (codes "ping") []
call_data (Prepare text) = worded (codes "prepare") (string text ∷ [])
call_data (CloseStmt handle) = worded (codes "close_stmt") (natural handle ∷ [])
call_data (Exec input params) = worded (codes "exec") (input_data input ∷ params_data params ∷ [])
call_data (Query input params) = worded (codes "query") (input_data input ∷ params_data params ∷ [])
call_data (Next rows) = worded (codes "next") (natural rows ∷ [])
call_data (CloseRows rows) = worded (codes "close_rows") (natural rows ∷ [])
call_data (Begin level read_only) = worded (codes "begin") (string (level_word level) ∷ boolean read_only ∷ [])
call_data Commit = worded (codes "commit") []
call_data Rollback = worded (codes "rollback") []
call_data Shut = worded (codes "shut") []

-- Returns the data of an answer: its word and what it gives. A `Memory` never stands in a report, and has a
-- form for completeness alone.
abbrev pub answer_data : DriverAnswer → Data
answer_data Done = worded (codes "done") []
answer_data (Prepared handle inputs) = worded (codes "prepared") (natural handle ∷ integer inputs ∷ [])
answer_data (Result last affected) = worded (codes "result") (integer last ∷ integer affected ∷ [])
answer_data (Cursor rows columns) = worded (codes "cursor") (natural rows ∷ texts_data columns ∷ [])
answer_data (Row values) = worded (codes "row") (values_data values ∷ [])
answer_data End = worded (codes "end") []
answer_data Invalid = worded (codes "invalid") []
answer_data Skip = worded (codes "skip") []
answer_data Bad = worded (codes "bad") []
answer_data (Fail text) = worded (codes "fail") (string text ∷ [])
answer_data Memory = worded (codes "memory") []
