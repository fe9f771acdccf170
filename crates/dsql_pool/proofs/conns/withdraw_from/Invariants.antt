-- The rows before the index are withdrawn.
use Rattle.std.proofs.Common.{◌≡◌, ◌++◌, map, take, drop, vec_capacity}
use Rattle.dsql_pool.specs.Changes.{unwanted_by}
use Rattle.dsql_pool.proofs.conns.withdraw_from.Given as goal

abbrev pub invariant-loop-at : goal.invariant-loop-at
invariant-loop-at l =
    (l.rows.items ≡ map (unwanted_by l.call) (take l.at l.initial.rows.items) ++ drop l.at l.initial.rows.items)
    × (vec_capacity l.rows ≡ vec_capacity l.initial.rows)
