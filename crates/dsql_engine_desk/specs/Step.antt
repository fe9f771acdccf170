-- The call whose own step is under way.
use Rattle.std.specs.Prelude.{ℕ, cond, List, [], ◌∷◌}
use Rattle.dsql_laws_calls.specs.pool.declared.moves.Move.{Move}
use Rattle.dsql_laws_calls.specs.pool.declared.moves.Move.TheVariants.{Lend}
use Rattle.dsql_laws_calls.specs.journal.Readers.{is_empty}
use Rattle.dsql_laws_calls.specs.history.declared.event.Event.{Event}
use Rattle.dsql_laws_calls.specs.history.declared.event.Event.TheVariants.{Entered, Heard, Pool}
use Rattle.dsql_laws_calls.specs.history.Readers.Owed.{owed}

-- Returns the call whose own step is under way after a move that nobody owed.
abbrev pub step_after_move : Move → ℕ → ℕ
step_after_move (Lend c tenure owner n) step = n
step_after_move move step = step

-- Returns the call that last entered, had its answer heard, or asked and was lent a connection, if only moves came
-- since. Returns 0 for none and for the layer.
abbrev pub own_step : List Event → ℕ
own_step [] = 0
own_step (Entered client n op ∷ before) = n
own_step (Heard e ∷ before) = e.call_no
own_step (Pool move ∷ before) = cond (is_empty (owed before)) (step_after_move move (own_step before)) (own_step before)
own_step (_ ∷ before) = 0
