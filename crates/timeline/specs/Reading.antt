-- Defines which events of a report are shown.
use Rattle.std.specs.Prelude.{Bool, true, false, ℕ, ◌≡◌, ◌+◌, ◌⊎◌, List, [], ◌∷◌, ◌++◌, length, map, Option, Some, None, Ok, Err}
use Rattle.dsql_history.specs.declared.event.Event.{Event}
use Rattle.dsql_script.specs.forms.declared.fault.What.TheVariants.{Lines}
use Rattle.dsql_script.specs.forms.declared.fault.LineFault.{LineFault}
use Rattle.dsql_script.specs.forms.declared.fault.LineFault.TheVariants.{TooMany, Memory}
use Rattle.dsql_script.specs.event_reader.Events.{Reading, reading_of}
use Rattle.dsql_script_source.specs.declared.stop.Stop.{Stop}
use Rattle.dsql_script_source.specs.declared.stop.Stop.TheVariants.{Refused}
use Rattle.dsql_timeline_picture.specs.declared.picture.TheConstants.{MOST_EVENTS}
use Rattle.dsql_timeline_picture.specs.Pictures.{picture_of}

-- Returns what each of these events is as a reading.
abbrev pub readings : List Event → List Reading
readings events = map Ok events

-- Is true if a line wasn't read for lack of memory.
abbrev pub is_memory : LineFault → Bool
is_memory Memory = true
is_memory _ = false

-- Holds if the first of these lines, after so many lines, is refused for this fault. It isn't an event's line, or
-- there are too many.
abbrev pub IsRefusedFor : LineFault → ℕ → List (List ℕ) → Type 0
IsRefusedFor fault before [] = ⊥
IsRefusedFor fault before (line ∷ more) =
    (reading_of line ≡ Err fault) ⊎ ((before ≡ MOST_EVENTS) × (fault ≡ TooMany Lines))

-- Holds if nothing is left after so many lines, or the first of the lines that are left is refused, with its number.
abbrev pub StopsAt : Option Stop → ℕ → List (List ℕ) → Type 0
StopsAt None before rest = rest ≡ []
StopsAt (Some (Refused number fault)) before rest = (number ≡ before + 1) × IsRefusedFor fault before rest
StopsAt (Some _) before rest = ⊥

-- Holds if these are the events of the first lines, each read from its line, and the next line is refused as stated.
pub record IsRead (lines : List (List ℕ)) (events : List Event) (refused : Option Stop) : Type 0 where
  pub rest : List (List ℕ)
  pub read : map reading_of lines ≡ readings events ++ map reading_of rest
  pub stops : StopsAt refused (length events) rest

-- Holds if the page shows the picture of the events that are read from these lines.
pub record Shows (lines : List (List ℕ)) (page : List ℕ) (refused : Option Stop) : Type 0 where
  pub events : List Event
  pub read : IsRead lines events refused
  pub drawn : page ≡ picture_of events
