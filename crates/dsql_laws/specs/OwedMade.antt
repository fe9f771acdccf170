-- Defines a history in which the pool made its moves.
use Rattle.std.specs.Prelude.{List, [], ◌∷◌}
use Rattle.dsql_history.specs.pool.declared.moves.Move.{Move}
use Rattle.dsql_history.specs.declared.event.Event.{Event}
use Rattle.dsql_history.specs.declared.event.Event.TheVariants.{Pool}

-- Returns the history after these moves, one after another.
abbrev pub with_moves : List Move → List Event → List Event
with_moves [] history = history
with_moves (move ∷ moves) history = with_moves moves (Pool move ∷ history)
