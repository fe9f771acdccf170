-- What a race is given.
use Rattle.std.specs.Prelude.{Bool, false, List, []}
use Rattle.dsql_engine_laws.specs.history.declared.event.Event.{Event}
use Rattle.dsql_engine_laws.specs.history.declared.event.Event.TheVariants.{Ended}
use Rattle.dsql_engine_laws.specs.follows.declared.line.Line.{Line}
use Rattle.dsql_player_wires.specs.Made.{Made}

-- What a race is given: the run's first event, and the lines of its script, oldest first. It also says whether every
-- wire keeps a record, and which plans were made before.
pub record Terms : Type 0 where
  pub run : Event
  pub lines : List Line
  pub telling : Bool
  pub made : List Made

-- Returns the terms of a name for which no race was picked.
abbrev pub no_terms : Terms
no_terms = record { run = Ended; lines = []; telling = false; made = [] }
