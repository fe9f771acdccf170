-- Defines how driver calls and their answers are read.
use Rattle.std.specs.Prelude.{ℕ, List, codes, if◌then◌else◌, Option, Some, None, option_map, option_and_then}
use Rattle.std.specs.Str.{bytes_eq}
use Rattle.serde_json.specs.Data.{Data, null, boolean, number, string, array, object}
use Rattle.serde_json.specs.Find.{at, as_u64, as_str}
use Rattle.dsql_history.specs.value.declared.value.Param.{Param}
use Rattle.dsql_history.specs.driver.declared.call.Level.{Level}
use Rattle.dsql_history.specs.driver.declared.call.Level.TheVariants as level
use Rattle.dsql_history.specs.driver.declared.call.Input.{Input}
use Rattle.dsql_history.specs.driver.declared.call.Input.TheVariants.{Text, Handle}
use Rattle.dsql_history.specs.driver.declared.call.DriverCall.{DriverCall}
use Rattle.dsql_history.specs.driver.declared.call.DriverCall.TheVariants.{Connect, Reset, Valid, Ping, Prepare, CloseStmt, Exec, Query, Next, CloseRows, Begin, Commit, Rollback, Shut}
use Rattle.dsql_history.specs.driver.declared.answer.DriverAnswer.{DriverAnswer}
use Rattle.dsql_history.specs.driver.declared.answer.DriverAnswer.TheVariants as answer
use Rattle.dsql_script_event_lines.specs.Parts.{word_sized, number_at, integer_at, short_at, truth_at, text_at, list_at}
use Rattle.dsql_script_event_reader.specs.Values.{value_of, param_of}

abbrev pub level_of : List ℕ → Option Level
level_of word =
    if bytes_eq word (codes "default") then Some level.Default
    else if bytes_eq word (codes "read_uncommitted") then Some level.ReadUncommitted
    else if bytes_eq word (codes "read_committed") then Some level.ReadCommitted
    else if bytes_eq word (codes "write_committed") then Some level.WriteCommitted
    else if bytes_eq word (codes "repeatable_read") then Some level.RepeatableRead
    else if bytes_eq word (codes "snapshot") then Some level.Snapshot
    else if bytes_eq word (codes "serializable") then Some level.Serializable
    else if bytes_eq word (codes "linearizable") then Some level.Linearizable
    else None

-- Returns a statement's text, or the number of its handle.
abbrev pub input_of : Data → Option Input
input_of null = None
input_of (boolean b) = None
input_of (number n) = option_map Handle (option_and_then word_sized (as_u64 n))
input_of (string text) = Some (Text text)
input_of (array ds) = None
input_of (object ms) = None

abbrev pub input_at : ℕ → Data → Option Input
input_at i d = option_and_then input_of (at i d)

-- Returns a driver call that has a statement and its parameters.
abbrev pub run_by : (Input → List Param → DriverCall) → Data → Option DriverCall
run_by call d = option_and_then (λ input. option_map (call input) (list_at param_of 2 d)) (input_at 1 d)

abbrev pub begin_of : Data → Option DriverCall
begin_of d = option_and_then (λ level. option_map (Begin level) (truth_at 2 d)) (option_and_then level_of (text_at 1 d))

-- Returns a driver call whose word stands alone.
abbrev pub lone_call : List ℕ → Option DriverCall
lone_call word =
    if bytes_eq word (codes "connect") then Some Connect
    else if bytes_eq word (codes "reset") then Some Reset
    else if bytes_eq word (codes "valid") then Some Valid
    else if bytes_eq word (codes "ping") then Some Ping
    else if bytes_eq word (codes "commit") then Some Commit
    else if bytes_eq word (codes "rollback") then Some Rollback
    else if bytes_eq word (codes "shut") then Some Shut
    else None

-- Returns a driver call by its word.
abbrev pub call_by : List ℕ → Data → Option DriverCall
call_by word d =
    if bytes_eq word (codes "prepare") then option_map Prepare (text_at 1 d)
    else if bytes_eq word (codes "close_stmt") then option_map CloseStmt (number_at 1 d)
    else if bytes_eq word (codes "exec") then run_by Exec d
    else if bytes_eq word (codes "query") then run_by Query d
    else if bytes_eq word (codes "next") then option_map Next (number_at 1 d)
    else if bytes_eq word (codes "close_rows") then option_map CloseRows (number_at 1 d)
    else if bytes_eq word (codes "begin") then begin_of d
    else lone_call word

abbrev pub call_of : Data → Option DriverCall
call_of d = option_and_then (λ word. call_by word d) (text_at 0 d)

abbrev pub prepared_of : Data → Option DriverAnswer
prepared_of d = option_and_then (λ handle. option_map (answer.Prepared handle) (short_at 2 d)) (number_at 1 d)

abbrev pub result_of : Data → Option DriverAnswer
result_of d = option_and_then (λ last. option_map (answer.Result last) (integer_at 2 d)) (integer_at 1 d)

abbrev pub cursor_of : Data → Option DriverAnswer
cursor_of d = option_and_then (λ rows. option_map (answer.Cursor rows) (list_at as_str 2 d)) (number_at 1 d)

-- Returns an answer whose word stands alone.
abbrev pub lone_answer : List ℕ → Option DriverAnswer
lone_answer word =
    if bytes_eq word (codes "done") then Some answer.Done
    else if bytes_eq word (codes "end") then Some answer.End
    else if bytes_eq word (codes "invalid") then Some answer.Invalid
    else if bytes_eq word (codes "skip") then Some answer.Skip
    else if bytes_eq word (codes "bad") then Some answer.Bad
    else if bytes_eq word (codes "memory") then Some answer.Memory
    else None

-- Returns an answer by its word.
abbrev pub answer_by : List ℕ → Data → Option DriverAnswer
answer_by word d =
    if bytes_eq word (codes "prepared") then prepared_of d
    else if bytes_eq word (codes "result") then result_of d
    else if bytes_eq word (codes "cursor") then cursor_of d
    else if bytes_eq word (codes "row") then option_map answer.Row (list_at value_of 1 d)
    else if bytes_eq word (codes "fail") then option_map answer.Fail (text_at 1 d)
    else lone_answer word

abbrev pub answer_of : Data → Option DriverAnswer
answer_of d = option_and_then (λ word. answer_by word d) (text_at 0 d)
