-- Defines how long a line of a report may be.
use Rattle.std.specs.Prelude.{ℕ}
use Rattle.dsql_script_event_lines.specs.declared.lines.TheConstants.{MAX_BYTES}

-- Returns the most bytes that a line may have before its line feed.
abbrev pub most_bytes : ℕ
most_bytes = MAX_BYTES
