-- Defines what the words of a client's call and the array after them ask for, and why they are refused.
use Rattle.std.specs.Prelude.{ℕ, ◌||◌, Bool, nat_lt, List, [], ◌∷◌, length, codes, if◌then◌else◌, Option, Some, None, Ok, Err}
use Rattle.std.specs.Str.{bytes_eq}
use Rattle.serde_json.specs.Data.{Data}
use Rattle.serde_json.specs.Read.{read}
use Rattle.dsql_history.specs.value.declared.arg.Named.{Named}
use Rattle.dsql_history.specs.scan.declared.dest.Dest.{Dest}
use Rattle.dsql_script_spelling.specs.Dests.{dests_of}
use Rattle.dsql_script_forms.specs.declared.fault.What.TheVariants.{Args}
use Rattle.dsql_script_forms.specs.declared.fault.LineFault.TheVariants.{NoSuchWord, BadJson, BadShape, UnknownLabel, TooMany}
use Rattle.dsql_script_forms.specs.ScriptArgs.{call_of_data, most_args}
use Rattle.dsql_script_calls.specs.ScriptWords.{is_database, label_of}
use Rattle.dsql_script_calls.specs.CallTargets.{has_target, names_database, rows_of as label_alone}
use Rattle.dsql_history.specs.declared.event.Target.{Target}
use Rattle.dsql_history.specs.declared.event.Target.TheVariants.{Db, Label}
use Rattle.dsql_history.specs.declared.event.Op.{Op}
use Rattle.dsql_history.specs.declared.event.Op.TheVariants as op
use Rattle.dsql_script_calls.specs.declared.calls.Verb.{Verb}
use Rattle.dsql_script_calls.specs.declared.calls.Verb.TheVariants.{Exec, Query, One}
use Rattle.dsql_script_calls.specs.ScriptBegins.{CallReading, call_on, begin_of}

-- Returns the target that a word names: the database, or the transaction with this label.
abbrev pub target_of : List ℕ → Target
target_of word = if is_database word then Db else Label word

-- Returns the call that asks this of a text with arguments.
abbrev pub op_of : Verb → Target → List ℕ → List Named → Op
op_of Exec target text args = op.Exec target text args
op_of (Query label) target text args = op.Query label target text args
op_of (One dests) target text args = op.One target dests text args

-- Returns the number of destinations.
abbrev pub dest_count : Verb → ℕ
dest_count (One dests) = length dests
dest_count _ = 0

abbrev pub has_too_many : Verb → List Named → Bool
has_too_many verb args = nat_lt most_args (length args) || nat_lt most_args (dest_count verb)

-- Returns the call, or `UnknownLabel` if it names a token, since no line makes a token.
abbrev pub call_under : List (List ℕ) → Op → CallReading
call_under [] op = Ok op
call_under tokens op = Err UnknownLabel

-- Returns a call whose array has the right shape. The numbers of arguments and destinations are checked before
-- the names.
abbrev pub call_of_parts : Verb → Target → List (List ℕ) → Option (List ℕ × List Named) → CallReading
call_of_parts verb target tokens None = Err BadShape
call_of_parts verb target tokens (Some (text, args)) =
    if has_too_many verb args then Err (TooMany Args) else call_under tokens (op_of verb target text args)

abbrev pub call_of_array : Verb → Target → List (List ℕ) → Option Data → CallReading
call_of_array verb target tokens None = Err BadJson
call_of_array verb target tokens (Some d) = call_of_parts verb target tokens (call_of_data d)

-- Returns a call by its verb, its target, the words after that, and its array.
abbrev pub statement_of : Verb → List ℕ → List (List ℕ) → Option (List ℕ) → CallReading
statement_of verb target tokens None = Err BadShape
statement_of verb target tokens (Some array) =
    if has_target target tokens then call_of_array verb (target_of target) tokens (read array) else Err BadShape

-- Returns an exec by the words after it and its array.
abbrev pub exec_of : List (List ℕ) → Option (List ℕ) → CallReading
exec_of [] array = Err BadShape
exec_of (target ∷ tokens) array = statement_of Exec target tokens array

abbrev pub one_into : Option (List Dest) → List ℕ → List (List ℕ) → Option (List ℕ) → CallReading
one_into None target tokens array = Err BadShape
one_into (Some dests) target tokens array = statement_of (One dests) target tokens array

-- Returns a call that reads one row into destinations, by the words after `one` and its array.
abbrev pub one_of : List (List ℕ) → Option (List ℕ) → CallReading
one_of (target ∷ dests ∷ tokens) array = one_into (dests_of dests) target tokens array
one_of _ array = Err BadShape

abbrev pub query_as : Option (List ℕ) → List ℕ → List (List ℕ) → Option (List ℕ) → CallReading
query_as None target tokens array = Err BadShape
query_as (Some label) target tokens array = statement_of (Query label) target tokens array

-- Returns a query by its array and the words after it: the label that it makes, and its target.
abbrev pub query_of : List (List ℕ) → Option (List ℕ) → CallReading
query_of (label ∷ target ∷ tokens) array = query_as (label_of label) target tokens array
query_of _ array = Err BadShape

-- Returns a ping by its target and the words after that. It has no array.
abbrev pub ping_on : List ℕ → List (List ℕ) → Option (List ℕ) → CallReading
ping_on target tokens (Some array) = Err BadShape
ping_on target tokens None =
    if has_target target tokens then call_on (names_database target tokens) op.Ping else Err BadShape

-- Returns a ping by the words after it.
abbrev pub ping_of : List (List ℕ) → Option (List ℕ) → CallReading
ping_of [] array = Err BadShape
ping_of (target ∷ tokens) array = ping_on target tokens array

-- Returns a call on rows or on a transaction by its label, or `BadShape` if there is no label.
abbrev pub label_call : (List ℕ → Op) → Option (List ℕ) → CallReading
label_call asked None = Err BadShape
label_call asked (Some label) = Ok (asked label)

abbrev pub scan_into : Option (List ℕ) → Option (List Dest) → CallReading
scan_into None dests = Err BadShape
scan_into (Some rows) None = Err BadShape
scan_into (Some rows) (Some dests) =
    if nat_lt most_args (length dests) then Err (TooMany Args) else Ok (op.Scan rows dests)

-- Returns a scan of a row by the words after `scan`: the label of the rows and the destinations. It has no
-- array.
abbrev pub scan_of : List (List ℕ) → Option (List ℕ) → CallReading
scan_of words (Some array) = Err BadShape
scan_of (rows ∷ dests ∷ []) None = scan_into (label_of rows) (dests_of dests)
scan_of _ None = Err BadShape

-- Returns a call on rows by its first word and the words after it.
abbrev pub rows_call_by : List ℕ → List (List ℕ) → Option (List ℕ) → CallReading
rows_call_by verb words array =
    if bytes_eq verb (codes "next") then label_call op.Next (label_alone words array)
    else if bytes_eq verb (codes "scan") then scan_of words array
    else if bytes_eq verb (codes "rowsclose") then label_call op.RowsClose (label_alone words array)
    else if bytes_eq verb (codes "err") then label_call op.Err (label_alone words array)
    else Err NoSuchWord

-- Returns a call that begins or ends a transaction, or a call on rows, by its first word and the words after
-- it.
abbrev pub tx_call_by : List ℕ → List (List ℕ) → Option (List ℕ) → CallReading
tx_call_by verb words array =
    if bytes_eq verb (codes "begin") then begin_of words array
    else if bytes_eq verb (codes "commit") then label_call op.Commit (label_alone words array)
    else if bytes_eq verb (codes "rollback") then label_call op.Rollback (label_alone words array)
    else rows_call_by verb words array

-- Returns a call whose word stands alone: no words and no array may follow.
abbrev pub lone_call : Op → List (List ℕ) → Option (List ℕ) → CallReading
lone_call asked words (Some array) = Err BadShape
lone_call asked [] None = Ok asked
lone_call asked _ None = Err BadShape

-- Returns a call by its first word and the words after it.
abbrev pub call_by : List ℕ → List (List ℕ) → Option (List ℕ) → CallReading
call_by verb words array =
    if bytes_eq verb (codes "exec") then exec_of words array
    else if bytes_eq verb (codes "query") then query_of words array
    else if bytes_eq verb (codes "one") then one_of words array
    else if bytes_eq verb (codes "ping") then ping_of words array
    else if bytes_eq verb (codes "dbclose") then lone_call op.DbClose words array
    else if bytes_eq verb (codes "stats") then lone_call op.Stats words array
    else tx_call_by verb words array

-- Returns a call by its words.
abbrev pub call_of : List (List ℕ) → Option (List ℕ) → CallReading
call_of [] array = Err NoSuchWord
call_of (verb ∷ words) array = call_by verb words array
