-- The closings so far.
use Rattle.std.proofs.Common.{◌≡◌, ◌≤◌, take, vec_len, vec_capacity}
use Rattle.std.specs.List.{filter_map}
use Rattle.dsql_pool.specs.Decisions.{closing_at}
use Rattle.dsql_pool.proofs.lists.note_outdated.Given as goal

abbrev pub invariant-loop-conn : goal.invariant-loop-conn
invariant-loop-conn l =
    (l.moves.items ≡ filter_map (closing_at l.limits l.moment l.conns.conns) (take l.conn-index l.idle))
    × (vec_len l.moves ≤ l.conn-index)
    × (vec_capacity l.initial.moves ≤ vec_capacity l.moves)
