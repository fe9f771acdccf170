-- Defines the names of bars: parts of the events' lines.
use Rattle.std.specs.Prelude.{ℕ, ◌==◌, List, [], Option, Some, None, slice_get, unwrap_or}
use Rattle.std.specs.List.{slice_split}
use Rattle.dsql_history.specs.pool.declared.moves.Move.TheVariants.{Lend, CloseStart}
use Rattle.dsql_history.specs.declared.event.Event.{Event}
use Rattle.dsql_history.specs.declared.event.Event.TheVariants.{Entered, Heard, Pool, Ticked, SetLimit, Replied}

-- Returns which part of an event's line names its bar, if the line is cut at its quotes. `None` stands for all of it.
abbrev pub part_of : Event → Option ℕ
part_of (Ticked now) = None
part_of (SetLimit setting n) = None
part_of (Entered client n op) = Some 3
part_of (Replied n reply) = Some 3
part_of (Pool (Lend conn tenure owner call)) = Some 3
part_of (Pool (CloseStart conn cause)) = Some 3
part_of (Heard entry) = Some 5
part_of _ = Some 1

-- Returns a part of a line that is cut at its quotes, or nothing if it has fewer parts.
abbrev pub quoted : List ℕ → ℕ → List ℕ
quoted line place = unwrap_or (slice_get (slice_split (λ byte. byte == 34) line) place) []

abbrev pub in_line : List ℕ → Option ℕ → List ℕ
in_line line None = line
in_line line (Some place) = quoted line place

-- Returns the name of an event's bar, which stands in the event's line.
abbrev pub name_in : Event → List ℕ → List ℕ
name_in event line = in_line line (part_of event)
