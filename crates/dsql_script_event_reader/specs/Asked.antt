-- Defines how the calls of clients are read from their words and the array after them.
use Rattle.std.specs.Prelude.{ℕ, List, slice_get, Option, option_and_then, codes, if◌then◌else◌, None, option_map}
use Rattle.serde_json.specs.Data.{Data}
use Rattle.serde_json.specs.Find.{at}
use Rattle.dsql_history.specs.value.declared.arg.Named.{Named}
use Rattle.dsql_history.specs.scan.declared.dest.Dest.{Dest}
use Rattle.dsql_script_spelling.specs.Dests.{dests_of}
use Rattle.dsql_script_forms.specs.ScriptArgs.{call_of_data}
use Rattle.std.specs.Result.{result_ok}
use Rattle.std.specs.Str.{bytes_eq}
use Rattle.dsql_script_calls.specs.ScriptWords.{spaced_words}
use Rattle.dsql_script_event_lines.specs.Parts.{text_at}
use Rattle.dsql_history.specs.declared.event.Target.{Target}
use Rattle.dsql_history.specs.declared.event.Op.{Op}
use Rattle.dsql_history.specs.declared.event.Op.TheVariants.{Exec, Query, One, Scan}
use Rattle.dsql_script_calls.specs.ScriptCalls.{target_of, call_of}

-- Returns the text and the arguments of the call in an `enter` line.
abbrev pub statement_in : Data → Option (List ℕ × List Named)
statement_in d = option_and_then call_of_data (at 4 d)

-- Returns the destinations that the word at this place names.
abbrev pub dests_in : ℕ → List (List ℕ) → Option (List Dest)
dests_in i words = option_and_then dests_of (slice_get words i)

-- Returns the target that the word at this place names.
abbrev pub target_in : ℕ → List (List ℕ) → Option Target
target_in i words = option_map target_of (slice_get words i)

abbrev pub exec_of : Option Target → Data → Option Op
exec_of target d = option_and_then (λ t. option_map (λ s. Exec t s.0 s.1) (statement_in d)) target

abbrev pub query_of : Option (List ℕ) → Option Target → Data → Option Op
query_of label target d =
    option_and_then (λ l. option_and_then (λ t. option_map (λ s. Query l t s.0 s.1) (statement_in d)) target) label

abbrev pub one_of : Option Target → Option (List Dest) → Data → Option Op
one_of target dests d =
    option_and_then (λ t. option_and_then (λ ds. option_map (λ s. One t ds s.0 s.1) (statement_in d)) dests) target

abbrev pub scan_of : Option (List ℕ) → Option (List Dest) → Option Op
scan_of rows dests = option_and_then (λ r. option_map (Scan r) dests) rows

-- Returns a call that has no array and no destinations, as a script spells it.
abbrev pub worded_of : List (List ℕ) → Option Op
worded_of words = result_ok (call_of words None)

-- Returns a call by its first word.
abbrev pub op_by : List ℕ → List (List ℕ) → Data → Option Op
op_by verb words d =
    if bytes_eq verb (codes "exec") then exec_of (target_in 1 words) d
    else if bytes_eq verb (codes "query") then query_of (slice_get words 1) (target_in 2 words) d
    else if bytes_eq verb (codes "one") then one_of (target_in 1 words) (dests_in 2 words) d
    else if bytes_eq verb (codes "scan") then scan_of (slice_get words 1) (dests_in 2 words)
    else worded_of words

-- Returns a call by its words.
abbrev pub op_of : List (List ℕ) → Data → Option Op
op_of words d = option_and_then (λ verb. op_by verb words d) (slice_get words 0)

-- Returns the call of an `enter` line.
abbrev pub op_in : Data → Option Op
op_in d = option_and_then (λ words. op_of (spaced_words words) d) (text_at 3 d)
