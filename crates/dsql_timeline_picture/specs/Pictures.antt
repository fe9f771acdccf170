-- Defines the picture of a report: its lanes, and then a bar for each event.
use Rattle.std.specs.Prelude.{ℕ, ◌==◌, ◌+◌, ◌≤◌, if◌then◌else◌, List, [], ◌∷◌, ◌++◌, codes, decimal, length, reverse, flat_map}
use Rattle.dsql_history.specs.declared.event.Event.{Event}
use Rattle.dsql_script_report.specs.Lines.{line_of}
use Rattle.dsql_script_show.specs.Summary.{summary_of, line_of as summary_text}
use Rattle.dsql_timeline_page.specs.declared.bar.Bar.{Bar}
use Rattle.dsql_timeline_page.specs.declared.bar.Class.TheVariants as class
use Rattle.dsql_timeline_page.specs.Bars.{bar_text}
use Rattle.dsql_timeline_page.specs.Heads.{head_text, foot_text}
use Rattle.dsql_timeline_picture.specs.Lanes.{Rows, lanes_of, height, row_of}
use Rattle.dsql_timeline_picture.specs.Kinds.{class_of, owner_of, width}
use Rattle.dsql_timeline_picture.specs.Names.{name_in}

-- A bar with its name and its title.
pub record Drawn : Type 0 where
  pub bar : Bar
  pub name : List ℕ
  pub title : List ℕ

abbrev pub drawn_text : Drawn → List ℕ
drawn_text d = bar_text d.bar d.name d.title

-- Returns a lane that is as wide as the picture.
abbrev pub lane_bar : ℕ → ℕ → ℕ → Bar
lane_bar columns place number =
    record { class = class.Lane; owner = number; column = 0; row = place; columns = columns; rows = 1 }

-- Returns a lane with its name and its number.
abbrev pub lane : ℕ → ℕ → List ℕ → ℕ → Drawn
lane columns place name number =
    record { bar = lane_bar columns place number; name = name ++ (codes " " ++ decimal number); title = [] }

-- Returns lanes with this name in rows from this one on.
abbrev pub lanes_from : List ℕ → ℕ → ℕ → List ℕ → List Drawn
lanes_from name columns place [] = []
lanes_from name columns place (number ∷ more) =
    lane columns place name number ∷ lanes_from name columns (place + 1) more

-- Returns the lanes of a picture.
abbrev pub lanes_drawn : Rows → ℕ → List Drawn
lanes_drawn lanes columns =
    lanes_from (codes "connection") columns 1 lanes.conns
    ++ lanes_from (codes "client") columns (1 + length lanes.conns) lanes.clients

-- Returns how many rows high a bar is. In row 0 it goes through all rows.
abbrev pub rows_from : Rows → ℕ → ℕ
rows_from lanes place = if place == 0 then height lanes else 1

-- Returns the bar of an event in this column, if these events follow it.
abbrev pub bar_of : Rows → ℕ → Event → List Event → Bar
bar_of lanes column event later = record {
  class = class_of event;
  owner = owner_of event;
  column = column;
  row = row_of lanes event;
  columns = width event later;
  rows = rows_from lanes (row_of lanes event);
}

abbrev pub event_drawn : Rows → ℕ → Event → List Event → Drawn
event_drawn lanes column event later =
    record { bar = bar_of lanes column event later; name = name_in event (line_of event); title = line_of event }

-- Returns the bars of events, the first of which stands in this column.
abbrev pub bars_from : Rows → ℕ → List Event → List Drawn
bars_from lanes column [] = []
bars_from lanes column (event ∷ later) = event_drawn lanes column event later ∷ bars_from lanes (column + 1) later

-- Returns the bars of all events of a report.
abbrev pub bars_of : List Event → List Drawn
bars_of events = bars_from (lanes_of events) 0 events

-- Returns all that is drawn for a report, each over what comes before it.
abbrev pub drawn_of : List Event → List Drawn
drawn_of events = lanes_drawn (lanes_of events) (length events) ++ bars_of events

-- Returns the summary of a report. The lines of the report stand for those of the script.
abbrev pub summary_in : List Event → List ℕ
summary_in events = summary_text (summary_of (length events) (reverse events))

-- Returns the page with the picture of a report.
abbrev pub picture_of : List Event → List ℕ
picture_of events =
    head_text (summary_in events) (length events) (height (lanes_of events)) ++ flat_map drawn_text (drawn_of events)
    ++ foot_text

-- Holds if a bar is within a picture with this many columns and rows.
pub record IsWithin (columns rows : ℕ) (d : Drawn) : Type 0 where
  pub across : d.bar.column + d.bar.columns ≤ columns
  pub down : d.bar.row + d.bar.rows ≤ rows
