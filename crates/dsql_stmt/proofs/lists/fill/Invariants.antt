-- There are at least as many lists as were counted, and each is empty.
use Rattle.std.proofs.Common.{◌≤◌, vec_len}
use Rattle.dsql_stmt.specs.Lists.{AreEmptyOf}
use Rattle.dsql_stmt.proofs.lists.fill.Given as goal

abbrev pub invariant-loop : goal.invariant-loop
invariant-loop l = AreEmptyOf l.size l.lists.items × (l.counter ≤ vec_len l.lists) × (vec_len l.initial.lists ≤ vec_len l.lists)
