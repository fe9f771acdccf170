-- Which faults the lines of a script plan.
use Rattle.std.specs.Prelude.{List, [], ◌∷◌, ◌++◌}
use Rattle.dsql_engine_laws.specs.history.declared.event.Event.{Event}
use Rattle.dsql_engine_laws.specs.follows.declared.line.Line.{Line}
use Rattle.dsql_engine_laws.specs.follows.declared.line.Line.TheVariants.{Fault}
use Rattle.dsql_engine_laws.specs.follows.Sentences.{Part}
use Rattle.dsql_engine_laws.specs.follows.Follows.{told}
use Rattle.dsql_player_wires.specs.Made.{Made}
use Rattle.dsql_player_wires.specs.WiresFit.{made_at}

-- Returns what a line plans after this history: the fault of a fault line, and nothing for other lines.
abbrev pub plans_of : Line → List Event → List Made
plans_of (Fault conn nth what) past = made_at conn (nth, what) past ∷ []
plans_of line past = []

-- Returns what the lines of these parts plan, each after the parts before it, newest first.
abbrev pub plans_made : Event → List Part → List Made
plans_made run [] = []
plans_made run (part ∷ earlier) = plans_of part.line (told run earlier) ++ plans_made run earlier
