-- Changes of a run, and the place where a run stops following its lines. Parts are counted from 1, as the
-- script counts their lines.
use Rattle.std.specs.Prelude.{ℕ, ◌+◌, ◌-◌, Bool, not, ◌&&◌, List, [], ◌∷◌, ◌++◌, length, take, drop, reverse, slice_index_or, slice_set}
use Rattle.dsql_history.specs.declared.event.Event.{Event}
use Rattle.dsql_follows.specs.declared.line.Line.{Line}
use Rattle.dsql_follows.specs.declared.line.Line.TheVariants.{Skip}
use Rattle.dsql_follows.specs.Moments.{Moment, met, at_end}
use Rattle.dsql_follows.specs.Sentences.{Part}
use Rattle.dsql_follows.specs.Follows.{Played, Judged, script, history, judged}
use Rattle.dsql_follows.specs.Splits.{split}
use Rattle.dsql_cases_runs.specs.CallWords.{part}

abbrev pub part_at : ℕ → Played → Part
part_at k it = slice_index_or it.parts (length it.parts - k) (part Skip [])

abbrev pub with_part : ℕ → Part → Played → Played
with_part k new it = record it { parts = slice_set it.parts (length it.parts - k) new }

-- Returns the run with these events, oldest first, in part k.
abbrev pub with_events : ℕ → List Event → Played → Played
with_events k events it = with_part k (record (part_at k it) { events = reverse events }) it

-- Returns the run with this line at part k.
abbrev pub with_line : ℕ → Line → Played → Played
with_line k line it = with_part k (record (part_at k it) { line = line }) it

-- Returns the run without line k and its part.
abbrev pub without_part : ℕ → Played → Played
without_part k it = record it { parts = take (length it.parts - k) it.parts ++ drop (length it.parts - k + 1) it.parts }

-- Returns the run with these events, oldest first, in the end's part.
abbrev pub with_last : List Event → Played → Played
with_last events it = record it { last = reverse events }

-- Returns the run in which the last n events of part k stand at the head of the next part.
abbrev pub puts_off : ℕ → ℕ → Played → Played
puts_off k n it =
    with_part (k + 1) (record (part_at (k + 1) it) {
      events = (part_at (k + 1) it).events
          ++ take n (part_at k it).events;
    })
    (with_part k (record (part_at k it) { events = drop n (part_at k it).events }) it)

-- Returns the run in which the last n events of the last line's part stand at the head of the end's part.
abbrev pub puts_off_to_the_end : ℕ → Played → Played
puts_off_to_the_end n it =
    record (with_part (length it.parts)
    (record (part_at (length it.parts) it) { events = drop n (part_at (length it.parts) it).events }) it) {
      last = it.last ++ take n (part_at (length it.parts) it).events;
    }

-- Returns the run in which all but the newest n events of the next part stand at the end of part k.
abbrev pub brings_forward : ℕ → ℕ → Played → Played
brings_forward k n it =
    with_part (k + 1) (record (part_at (k + 1) it) { events = take n (part_at (k + 1) it).events })
    (with_part k (record (part_at k it) { events = drop n (part_at (k + 1) it).events ++ (part_at k it).events }) it)

-- Is true if the sentence holds of the part's events at the moment when its line is read. `once_at_end` asks
-- the same of the events at the script's end.
abbrev pub once_read : (Moment → List Event → Bool) → Moment → Part → Bool
once_read sentence m part = sentence (met part.line m) part.events

abbrev pub once_at_end : (Moment → List Event → Bool) → Moment → List Event → Bool
once_at_end sentence m events = sentence (at_end m) events

abbrev pub strays : (Moment → Part → Bool) → Part → Judged → Bool
strays sentence part j = j.fine && not (sentence j.moment part)

-- Is true if all parts before part k follow their lines and the sentence is false of part k.
abbrev pub strays_at : ℕ → (Moment → Part → Bool) → Played → Bool
strays_at k sentence it = strays sentence (part_at k it) (judged it.run (drop (length it.parts - k + 1) it.parts))

abbrev pub strays_so : (Moment → List Event → Bool) → List Event → Judged → Bool
strays_so sentence events j = j.fine && not (sentence j.moment events)

-- Is true if all parts follow their lines and the sentence is false of the end's part.
abbrev pub strays_at_the_end : (Moment → List Event → Bool) → Played → Bool
strays_at_the_end sentence it = strays_so sentence it.last (judged it.run it.parts)

abbrev pub but_first : List Event → List Event
but_first [] = []
but_first (e ∷ later) = later

-- Returns the run with the same script and history, and with the parts that `split` finds.
abbrev pub parts_found : Played → Played
parts_found it = split (reverse (script it)) it.run (but_first (reverse (history it)))
