-- What a roll of retired wires holds.
use Rattle.std.specs.Prelude.{List, [], ◌∷◌, ◌++◌}
use Rattle.dsql_driver.specs.Wires.{RetiredWire}
use Rattle.dsql_mem_plans.specs.Log.{told_of}
use Rattle.dsql_mem_plans.specs.declared.roll.Roll.{Roll, Empty, Wire'}

-- Returns the wires on the roll with their reports, oldest first.
abbrev pub retired_of : Roll → List RetiredWire
retired_of Empty = []
retired_of (Wire' number log place before) = retired_of before ++ (number, told_of log) ∷ []
