-- The pairs so far and those to come are all of them, and the list has no less room than at the start.
use Rattle.std.proofs.Common.{◌≡◌, ◌≤◌, ◌+◌, ◌++◌, length, vec_len, vec_capacity}
use Rattle.dsql_stmt.specs.Statements.{handles_of}
use Rattle.dsql_stmt.proofs.table.pairs_of.Given as goal

abbrev pub invariant-loop-stmt : goal.invariant-loop-stmt
invariant-loop-stmt l =
    (l.pairs.items ++ handles_of l.n l.stmt-iterator ≡ handles_of l.n l.live.entries)
    × (vec_len l.pairs + length l.stmt-iterator ≤ length l.live.entries)
    × (vec_capacity l.fn.list ≤ vec_capacity l.pairs)
