-- Defines which event a line of a report records.
use Rattle.std.specs.Prelude.{ℕ, List, codes, if◌then◌else◌, Option, Some, None, option_map, option_and_then, ◌&&◌, ◌++◌, ◌∷◌, [], length, nat_lt, Result, Ok, Err}
use Rattle.std.specs.Str.{bytes_eq, is_utf8}
use Rattle.serde_json.specs.Data.{Data}
use Rattle.serde_json.specs.Find.{at, as_str}
use Rattle.dsql_history.specs.driver.declared.call.DriverCall.{DriverCall}
use Rattle.dsql_history.specs.journal.declared.entry.Owner.{Owner}
use Rattle.dsql_history.specs.journal.declared.entry.Permit.{Permit}
use Rattle.dsql_history.specs.declared.event.Setting.{Setting}
use Rattle.dsql_history.specs.declared.event.Setting.TheVariants.{MaxOpen, MaxIdle, MaxLife, MaxIdleTime}
use Rattle.dsql_script_event_lines.specs.Parts.{number_at, natural_at, byte_at, integer_at, text_at, list_at}
use Rattle.dsql_script_event_lines.specs.Moves.{owner_at, move_by}
use Rattle.dsql_script_event_reader.specs.DriverForms.{call_of, answer_of}
use Rattle.serde_json.specs.Read.{read}
use Rattle.dsql_history.specs.journal.Permits.{entry_of}
use Rattle.dsql_script_forms.specs.declared.fault.LineFault.{LineFault}
use Rattle.dsql_script_forms.specs.declared.fault.LineFault.TheVariants.{TooLong, NotUtf8, BadJson, BadShape}
use Rattle.dsql_script_reader.specs.ScriptHead.{caps_among}
use Rattle.dsql_script_event_lines.specs.Bounds.{most_bytes}
use Rattle.dsql_history.specs.declared.event.Event.{Event}
use Rattle.dsql_history.specs.declared.event.Event.TheVariants.{Run, Entered, Heard, Pool, Waits, Ticked, SetLimit, Replied, Ended}
use Rattle.dsql_script_report.specs.Lines.{line_of}
use Rattle.dsql_script_event_lines.specs.WellFormed.{is_well_formed}
use Rattle.dsql_script_event_reader.specs.Asked.{op_in}
use Rattle.dsql_script_event_reader.specs.ReplyForms.{reply_of}

-- Returns the permit for a driver call: the call, and for whom it is made.
abbrev pub permit : ℕ → ℕ → Owner → ℕ → ℕ → DriverCall → Permit
permit conn tenure owner call_no tx call =
    record { conn = conn; tenure = tenure; owner = owner; call_no = call_no; tx = tx; call = call }

abbrev pub call_in : Data → Option DriverCall
call_in d = option_and_then call_of (at 6 d)

abbrev pub permit_of : Data → Option Permit
permit_of d =
    option_and_then (λ conn. option_and_then
    (λ tenure. option_and_then (λ owner. option_and_then (λ call_no. option_and_then (λ tx.
    option_map (permit conn tenure owner call_no tx) (call_in d)
    ) (number_at 5 d)) (number_at 4 d)) (owner_at 3 d)) (number_at 2 d)) (number_at 1 d)

abbrev pub setting_of : List ℕ → Option Setting
setting_of word =
    if bytes_eq word (codes "maxopen") then Some MaxOpen
    else if bytes_eq word (codes "maxidle") then Some MaxIdle
    else if bytes_eq word (codes "maxlife") then Some MaxLife
    else if bytes_eq word (codes "maxidletime") then Some MaxIdleTime
    else None

abbrev pub run_of : Data → Option Event
run_of d =
    option_and_then (λ version. option_map (λ names. Run version (caps_among names)) (list_at as_str 2 d)) (byte_at 1 d)

abbrev pub entered_of : Data → Option Event
entered_of d =
    option_and_then (λ client. option_and_then (λ n. option_map (Entered client n) (op_in d)) (number_at 2 d))
    (byte_at 1 d)

-- Returns the entry of a driver call: the call, for whom it was made, and the answer.
abbrev pub heard_of : Data → Option Event
heard_of d =
    option_and_then (λ asked. option_map (λ answer. Heard (entry_of asked answer))
    (option_and_then answer_of (at 7 d))) (permit_of d)

abbrev pub limit_of : Data → Option Event
limit_of d =
    option_and_then (λ setting. option_map (SetLimit setting) (integer_at 2 d))
    (option_and_then setting_of (text_at 1 d))

abbrev pub replied_of : Data → Option Event
replied_of d = option_and_then (λ n. option_map (Replied n) (option_and_then reply_of (at 2 d))) (number_at 1 d)

-- Returns an event by the word of its line.
abbrev pub event_by : List ℕ → Data → Option Event
event_by word d =
    if bytes_eq word (codes "run") then run_of d
    else if bytes_eq word (codes "enter") then entered_of d
    else if bytes_eq word (codes "heard") then heard_of d
    else if bytes_eq word (codes "wait") then option_map Waits (number_at 1 d)
    else if bytes_eq word (codes "tick") then option_map Ticked (natural_at 1 d)
    else if bytes_eq word (codes "set") then limit_of d
    else if bytes_eq word (codes "reply") then replied_of d
    else if bytes_eq word (codes "ended") then Some Ended
    else option_map Pool (move_by word d)

-- Returns the event that an array records, if it has the places that its word asks for. It ignores what else
-- stands there: `if_spelled` decides whether the line is spelled as the event is.
abbrev pub event_of : Data → Option Event
event_of d = option_and_then (λ word. event_by word d) (text_at 0 d)

-- The event of a line, or the fault for which the line is refused.
abbrev pub Reading : Type 0
Reading = Result Event LineFault

-- Returns the event if its labels are names and this text is its line without the line feed, and `BadShape`
-- otherwise.
abbrev pub if_spelled : List ℕ → Event → Reading
if_spelled text e = if is_well_formed e && bytes_eq (line_of e) (text ++ 10 ∷ []) then Ok e else Err BadShape

abbrev pub of_event : List ℕ → Option Event → Reading
of_event text None = Err BadShape
of_event text (Some e) = if_spelled text e

abbrev pub of_data : List ℕ → Option Data → Reading
of_data text None = Err BadJson
of_data text (Some d) = of_event text (event_of d)

abbrev pub text_event : List ℕ → Reading
text_event text = of_data text (read text)

abbrev pub reading_of : List ℕ → Reading
reading_of line =
    if nat_lt most_bytes (length line) then Err TooLong else (if is_utf8 line then text_event line else Err NotUtf8)
