-- Defines what the lines of a script say, and why a line is refused.
use Rattle.std.specs.Prelude.{ℕ, ℤ, ◌==◌, ◌||◌, ◌&&◌, Bool, List, [], ◌∷◌, length, codes, Option, Some, None, true, false, nat_lt, nat_le, if◌then◌else◌, Result, Ok, Err}
use Rattle.dsql_driver_stream.specs.declared.lines.TheConstants.{LONGEST}
use Rattle.dsql_script_calls.specs.ScriptWords.{begins_with, limit_of, moment_of, words_of, array_of, ordinal_of, client_of}
use Rattle.std.specs.Str.{bytes_eq, is_utf8}
use Rattle.std.specs.Str.Lines.{strip_carriage_return}
use Rattle.dsql_history.specs.driver.declared.caps.Caps.{Caps}
use Rattle.dsql_history.specs.declared.event.Setting.{Setting}
use Rattle.dsql_history.specs.declared.event.Setting.TheVariants.{MaxOpen, MaxIdle, MaxLife, MaxIdleTime}
use Rattle.dsql_history.specs.declared.event.Control.TheVariants.{Tick, Set}
use Rattle.dsql_script_forms.specs.declared.fault.What.TheVariants.{Lines}
use Rattle.dsql_script_forms.specs.declared.fault.LineFault.{LineFault}
use Rattle.dsql_script_forms.specs.declared.fault.LineFault.TheVariants.{TooLong, NotUtf8, NoSuchWord, BadShape, TooMany}
use Rattle.dsql_script_reader.specs.ScriptHead.{is_version, caps_of, Progress}
use Rattle.dsql_script_reader.specs.ScriptPlans.{PlannedReading, planned_of}
use Rattle.dsql_script_calls.specs.ScriptBegins.{CallReading}
use Rattle.dsql_script_calls.specs.ScriptCalls.{call_of}
use Rattle.dsql_script_reader.specs.declared.reader.TheConstants.{MAX_LINES}
use Rattle.dsql_script_reader.specs.declared.script.ScriptLine.{ScriptLine}
use Rattle.dsql_script_reader.specs.declared.script.ScriptLine.TheVariants.{Skip, Version, UseCaps, Client, Step, StepHouse}
use Rattle.dsql_script_reader.specs.declared.script.ScriptLine.TheVariants as script
use Rattle.dsql_script_reader.specs.declared.script.Head.{Head}
use Rattle.dsql_script_reader.specs.declared.script.Head.TheVariants.{First, Begun}
use Rattle.dsql_script_reader.specs.ScriptLabels.{MadeLabel, line_fault}

-- Returns the number of a limit by the words after the first one. They must be that number alone, without an
-- array.
abbrev pub limit_alone : List (List ℕ) → Option (List ℕ) → Option ℤ
limit_alone words (Some array) = None
limit_alone (number ∷ []) None = limit_of number
limit_alone _ None = None

-- Returns a moment by the words after `tick`. They must be that moment alone, without an array.
abbrev pub moment_alone : List (List ℕ) → Option (List ℕ) → Option ℕ
moment_alone words (Some array) = None
moment_alone (now ∷ []) None = moment_of now
moment_alone _ None = None

-- Is true if the line is empty or a comment.
abbrev pub is_skipped : List ℕ → Bool
is_skipped text = length text == 0 || begins_with text (codes "#")

-- Returns the most bytes that a line may have before its line feed.
abbrev pub most_bytes : ℕ
most_bytes = LONGEST

-- A script line, or the fault for which the line is refused.
abbrev pub Reading : Type 0
Reading = Result ScriptLine LineFault

-- Returns the line of a client's call, which is held if the flag says so.
abbrev pub client_call : Bool → ℕ → CallReading → Reading
client_call held client (Ok op) = Ok (Client client op held)
client_call held client (Err fault) = Err fault

abbrev pub call_by_client : Bool → Option ℕ → CallReading → Reading
call_by_client held None call = Err NoSuchWord
call_by_client held (Some client) call = client_call held client call

-- Returns a client's line by its first word and the words after it.
abbrev pub client_line : Bool → List ℕ → List (List ℕ) → Option (List ℕ) → Reading
client_line held client words array = call_by_client held (client_of client) (call_of words array)

-- Returns the line of a held call by the words after `start`, which are a client's line.
abbrev pub start_line : List (List ℕ) → Option (List ℕ) → Reading
start_line [] array = Err NoSuchWord
start_line (client ∷ words) array = client_line true client words array

abbrev pub set_or_fault : Setting → Option ℤ → Reading
set_or_fault setting None = Err BadShape
set_or_fault setting (Some n) = Ok (script.Control (Set setting n))

-- Returns a line that sets a limit, by the words after the first one and the array.
abbrev pub set_line : Setting → List (List ℕ) → Option (List ℕ) → Reading
set_line setting words array = set_or_fault setting (limit_alone words array)

abbrev pub tick_or_fault : Option ℕ → Reading
tick_or_fault None = Err BadShape
tick_or_fault (Some now) = Ok (script.Control (Tick now))

-- Returns a line that sets the clock, by the words after `tick` and the array.
abbrev pub tick_line : List (List ℕ) → Option (List ℕ) → Reading
tick_line words array = tick_or_fault (moment_alone words array)

-- Returns a planned fault by its connection, its call and its answer. Both numbers are checked first.
abbrev pub plan_at : Option ℕ → Option ℕ → PlannedReading → Reading
plan_at None nth planned = Err BadShape
plan_at (Some conn) None planned = Err BadShape
plan_at (Some conn) (Some nth) (Ok what) = Ok (script.Fault conn nth what)
plan_at (Some conn) (Some nth) (Err fault) = Err fault

-- Returns a line that plans a fault, by the words after `fault` and the array.
abbrev pub plan_line : List (List ℕ) → Option (List ℕ) → Reading
plan_line (conn ∷ nth ∷ what ∷ []) array = plan_at (ordinal_of conn) (ordinal_of nth) (planned_of what array)
plan_line _ array = Err BadShape

abbrev pub step_or_fault : Option ℕ → Reading
step_or_fault None = Err BadShape
step_or_fault (Some client) = Ok (Step client)

-- Returns a step by the word for its actor: the layer itself or a client.
abbrev pub step_by : List ℕ → Reading
step_by who = if bytes_eq who (codes "house") then Ok StepHouse else step_or_fault (client_of who)

-- Returns the line of a step by the words after `step`, which are one word for its actor. The line has no
-- array.
abbrev pub step_line : List (List ℕ) → Option (List ℕ) → Reading
step_line words (Some array) = Err BadShape
step_line (who ∷ []) None = step_by who
step_line _ None = Err BadShape

-- Returns a version line by the words after the first one. It may stand before all lines except skipped ones.
abbrev pub version_line : Head → List (List ℕ) → Option (List ℕ) → Reading
version_line First words None = if is_version words then Ok (Version 1) else Err BadShape
version_line First words (Some array) = Err BadShape
version_line _ words array = Err NoSuchWord

abbrev pub caps_or_fault : Option Caps → Reading
caps_or_fault None = Err BadShape
caps_or_fault (Some caps) = Ok (UseCaps caps)

-- Returns a caps line by the words after the first one. It may stand before all lines except skipped ones and a
-- version line.
abbrev pub caps_line : Head → List (List ℕ) → Option (List ℕ) → Reading
caps_line Begun words array = Err NoSuchWord
caps_line _ words None = caps_or_fault (caps_of words)
caps_line _ words (Some array) = Err BadShape

-- Returns a line by its words and its array.
abbrev pub form_of : Head → List (List ℕ) → Option (List ℕ) → Reading
form_of head [] array = Err NoSuchWord
form_of head (first ∷ words) array =
    if bytes_eq first (codes "version") then version_line head words array
    else if bytes_eq first (codes "caps") then caps_line head words array
    else if bytes_eq first (codes "maxopen") then set_line MaxOpen words array
    else if bytes_eq first (codes "maxidle") then set_line MaxIdle words array
    else if bytes_eq first (codes "maxlife") then set_line MaxLife words array
    else if bytes_eq first (codes "maxidletime") then set_line MaxIdleTime words array
    else if bytes_eq first (codes "tick") then tick_line words array
    else if bytes_eq first (codes "fault") then plan_line words array
    else if bytes_eq first (codes "start") then start_line words array
    else if bytes_eq first (codes "step") then step_line words array
    else client_line false first words array

-- Is true if a race refuses a line of these words. A clock gives the moments of a race, and each of its clients goes on
-- by itself. So no line sets the moment, holds a call or asks for one step.
abbrev pub race_refuses : List (List ℕ) → Bool
race_refuses [] = false
race_refuses (first ∷ words) =
    bytes_eq first (codes "tick") || bytes_eq first (codes "start") || bytes_eq first (codes "step")

-- Returns a line by its words and its array. The script is for a race if the flag is true.
abbrev pub form_by : Bool → Head → List (List ℕ) → Option (List ℕ) → Reading
form_by race head words array = if race && race_refuses words then Err NoSuchWord else form_of head words array

abbrev pub text_by : Bool → Head → List ℕ → Reading
text_by race head text = if is_skipped text then Ok Skip else form_by race head (words_of text) (array_of text)

-- Returns what a text says in a script that is played.
abbrev pub text_of : Head → List ℕ → Reading
text_of head text = text_by false head text

-- Returns what a line says if few enough lines come before it. Its labels aren't checked.
abbrev pub line_of : Bool → Head → List ℕ → Reading
line_of race head line =
    if nat_lt most_bytes (length line) then Err TooLong else
    (if is_utf8 line then text_by race head (strip_carriage_return line) else Err NotUtf8)

-- Returns how many lines a script may have.
abbrev pub most_lines : ℕ
most_lines = MAX_LINES

abbrev pub unless_fault : ScriptLine → Option LineFault → Reading
unless_fault line None = Ok line
unless_fault line (Some fault) = Err fault

-- Returns the line, or its fault if it doesn't fit the labels that earlier lines made.
abbrev pub among_labels : List MadeLabel → Reading → Reading
among_labels labels (Ok line) = unless_fault line (line_fault labels line)
among_labels labels (Err fault) = Err fault

-- Returns what a line without its line feed says at this position of the script. Its labels are checked last.
abbrev pub read_of : Progress → List ℕ → Reading
read_of before line =
    if nat_le most_lines before.lines then Err (TooMany Lines) else among_labels before.labels
    (line_of before.race before.head line)
