-- The closings so far.
use Rattle.std.proofs.Common.{◌≡◌, ◌≤◌, map, take, vec_len, vec_capacity}
use Rattle.dsql_pool.specs.declared.moves.Move.TheVariants.{CloseStart}
use Rattle.dsql_pool.proofs.lists.note_closings.Given as goal

abbrev pub invariant-loop-conn : goal.invariant-loop-conn
invariant-loop-conn l =
    (l.moves.items ≡ map (λ c. CloseStart c l.cause) (take l.conn-index l.conns))
    × (vec_len l.moves ≡ l.conn-index)
    × (vec_capacity l.initial.moves ≤ vec_capacity l.moves)
