-- Defines how often the lines that a reader has read make a label.
use Rattle.std.specs.Prelude.{◌≡◌, ◌+◌, ℕ, cond, is_some, List, Option, Some, None}
use Rattle.dsql_follows.specs.Labels.{times_in}
use Rattle.dsql_script_reader.specs.declared.script.ScriptLine.{ScriptLine}
use Rattle.dsql_script_reader.specs.ScriptHead.{Progress}
use Rattle.dsql_script_reader.specs.ScriptLabels.{kind_of}
use Rattle.dsql_script_source.specs.Script.{line_as_played}

-- Returns 1 if a line that was read makes the label, 0 otherwise.
abbrev pub known : List ℕ → Progress → ℕ
known label place = cond (is_some (kind_of place.labels label)) 1 0

-- Returns how often the line makes the label, 0 if there is no line.
abbrev pub times_next : List ℕ → Option ScriptLine → ℕ
times_next label None = 0
times_next label (Some line) = times_in label (line_as_played line)

-- Holds if the label that the line makes, if there is a line, wasn't known, and is known afterwards. No other label
-- becomes known or unknown.
abbrev pub LearnsLabel : Option ScriptLine → Progress → Progress → Type 0
LearnsLabel line before after = (label : List ℕ) → known label after ≡ times_next label line + known label before
