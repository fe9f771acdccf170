-- Defines what holds of a line that is read, and of one that is refused.
use Rattle.std.specs.Prelude.{◌≡◌, ◌≢◌, ◌<◌, ◌≤◌, List, ℕ, [], ◌∷◌, ◌++◌, length, None, Ok, true}
use Rattle.std.specs.Str.{IsUtf8}
use Rattle.serde_json.specs.Read.{read}
use Rattle.dsql_history.specs.declared.event.Event.{Event}
use Rattle.dsql_script_forms.specs.declared.fault.LineFault.{LineFault}
use Rattle.dsql_script_forms.specs.declared.fault.LineFault.TheVariants.{TooLong, NotUtf8, BadJson, BadShape}
use Rattle.dsql_script_report.specs.Lines.{line_of}
use Rattle.dsql_script_event_lines.specs.Bounds.{most_bytes}
use Rattle.dsql_script_event_lines.specs.WellFormed.{is_well_formed}
use Rattle.dsql_script_event_reader.specs.Events.{reading_of}
use Rattle.dsql_script_event_reader.specs.Fits.{Fits, shown}

-- Holds if the line is the event's, without the line feed.
abbrev pub IsLine : List ℕ → Event → Type 0
IsLine line e = line_of e ≡ line ++ 10 ∷ []

-- Holds if the line is short enough, is the event's line, and the event's labels are names.
abbrev pub Tells : List ℕ → Event → Type 0
Tells line e = (length line ≤ most_bytes) × IsLine line e × (is_well_formed e ≡ true)

-- Holds if the fault is the first of these that applies to the line.
abbrev pub Refuses : LineFault → List ℕ → Type 0
Refuses TooLong line = most_bytes < length line
Refuses NotUtf8 line = (length line ≤ most_bytes) × ¬ (IsUtf8 line)
Refuses BadJson line = (length line ≤ most_bytes) × IsUtf8 line × (read line ≡ None)
Refuses BadShape line =
    (length line ≤ most_bytes) × IsUtf8 line × (read line ≢ None) × ((e : Event) → Fits e → ¬ (IsLine line e))
Refuses _ line = ⊥

-- Holds if each UTF-8 line that is an event's and isn't too long is read as this event.
abbrev pub ReadsEventsBack : Type 0
ReadsEventsBack =
    (e : Event) → Fits e → (line : List ℕ) → IsLine line e → length line ≤ most_bytes → IsUtf8 line
    → reading_of line ≡ Ok (shown e)

-- Holds if two events with the same line are shown as the same event.
abbrev pub LinesTellEvents : Type 0
LinesTellEvents = (e f : Event) → Fits e → Fits f → line_of e ≡ line_of f → shown e ≡ shown f
