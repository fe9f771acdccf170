-- Defines which lines a script for a race may have.
use Rattle.std.specs.Prelude.{◌≡◌, Bool, true, false, Option, Some, None}
use Rattle.dsql_history.specs.declared.event.Control.TheVariants.{Tick}
use Rattle.dsql_follows.specs.declared.line.Line.{Line}
use Rattle.dsql_follows.specs.declared.line.Line.TheVariants.{Control, Start, Step, StepHouse}
use Rattle.dsql_script_reader.specs.declared.script.ScriptLine.{ScriptLine}
use Rattle.dsql_script_source.specs.Script.{line_as_played}

-- Is true if the line may stand in a script for a race. In a race a clock gives the moments, and each client goes on by
-- itself. So the line sets no moment, holds no call and asks for no single step.
abbrev pub may_race : Line → Bool
may_race (Control (Tick now)) = false
may_race (Start client op) = false
may_race (Step client) = false
may_race StepHouse = false
may_race _ = true

-- Holds if the line, if there is one, may stand in a script for a race.
abbrev pub IsRacedLine : Option ScriptLine → Type 0
IsRacedLine None = Unit {0}
IsRacedLine (Some line) = may_race (line_as_played line) ≡ true
