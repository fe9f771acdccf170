-- Changes of a run, and the place where a run stops following its lines. Parts are counted from 1, as the
-- script counts their lines.
use Rattle.std.specs.Prelude.{ℕ, ◌+◌, ◌-◌, Bool, not, ◌&&◌, List, [], ◌++◌, length, drop, reverse, slice_index_or, slice_set}
use Rattle.dsql_history.specs.declared.event.Event.{Event}
use Rattle.dsql_follows.specs.declared.line.Line.TheVariants.{Skip}
use Rattle.dsql_follows.specs.Moments.{Moment, met}
use Rattle.dsql_follows.specs.Sentences.{Part}
use Rattle.dsql_follows.specs.Follows.{Played, Judged, script, history, judged}
use Rattle.dsql_follows.specs.Splits.{split}
use Rattle.dsql_cases_runs.specs.Words.{part}

abbrev pub part_at : ℕ → Played → Part
part_at k it = slice_index_or it.parts (length it.parts - k) (part Skip [])

abbrev pub with_part : ℕ → Part → Played → Played
with_part k new it = record it { parts = slice_set it.parts (length it.parts - k) new }

-- Returns the run with these events, oldest first, in part k.
abbrev pub with_events : ℕ → List Event → Played → Played
with_events k events it = with_part k (record (part_at k it) { events = reverse events }) it

-- Returns the run with these events, oldest first, in the end's part.
abbrev pub with_last : List Event → Played → Played
with_last events it = record it { last = reverse events }

-- Returns the run in which the events of the next part stand at the end of part k.
abbrev pub brings_forward : ℕ → Played → Played
brings_forward k it =
    with_part (k + 1) (record (part_at (k + 1) it) { events = [] })
    (with_part k (record (part_at k it) { events = (part_at (k + 1) it).events ++ (part_at k it).events }) it)

-- Is true if the sentence holds of the part's events at the moment when its line is read.
abbrev pub once_read : (Moment → List Event → Bool) → Moment → Part → Bool
once_read sentence m part = sentence (met part.line m) part.events

abbrev pub strays : (Moment → Part → Bool) → Part → Judged → Bool
strays sentence part j = j.fine && not (sentence j.moment part)

-- Is true if all parts before part k follow their lines and the sentence is false of part k.
abbrev pub strays_at : ℕ → (Moment → Part → Bool) → Played → Bool
strays_at k sentence it = strays sentence (part_at k it) (judged it.run (drop (length it.parts - k + 1) it.parts))

abbrev pub strays_so : (Moment → List Event → Bool) → List Event → Judged → Bool
strays_so sentence events j = j.fine && not (sentence j.moment events)

-- Is true if all parts follow their lines and the sentence is false of the end's part.
abbrev pub strays_at_the_end : (Moment → List Event → Bool) → Played → Bool
strays_at_the_end sentence it = strays_so sentence it.last (judged it.run it.parts)

-- Returns the run with the same script and history, and with the parts that `split` finds.
abbrev pub parts_found : Played → Played
parts_found it = split (reverse (script it)) it.run (drop 1 (reverse (history it)))
