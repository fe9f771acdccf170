-- Defines the rule that a move which the pool owes is the very next event.
use Rattle.std.specs.Prelude.{Bool, true, false, List, [], ◌∷◌}
use Rattle.dsql_pool.specs.declared.moves.Move.{Move}
use Rattle.dsql_history.specs.declared.event.Event.{Event}
use Rattle.dsql_history.specs.declared.event.Event.TheVariants.{Pool}
use Rattle.dsql_history.specs.Same.{same_move}
use Rattle.dsql_history.specs.Readers.Owed.{owed}

-- Is true if the event is that move.
abbrev pub makes : Move → Event → Bool
makes due (Pool move) = same_move due move
makes due _ = false

abbrev pub follows : List Move → Event → Bool
follows [] next = true
follows (due ∷ later) next = makes due next

abbrev pub keeps_order : List Event → Event → Bool
keeps_order before e = follows (owed before) e
