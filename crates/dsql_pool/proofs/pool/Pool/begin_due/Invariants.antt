-- This many openings have begun, and the others are allowed.
use Rattle.std.proofs.Common.{◌≡◌, ◌+◌, ◌≤◌, ◌++◌, length}
use Rattle.dsql_pool.specs.Pooled.{next_number}
use Rattle.dsql_pool.specs.Moved.{made}
use Rattle.dsql_pool.specs.Decisions.{openings}
use Rattle.dsql_pool.proofs.pool.Pool.begin_due.Given as goal

abbrev pub invariant-loop-k : goal.invariant-loop-k
invariant-loop-k l =
    (l.self.pooled ≡ made (openings l._k (next_number l.initial.self.pooled)) l.initial.self.pooled)
    × (l.self.moves ≡ l.initial.self.moves ++ openings l._k (next_number l.initial.self.pooled))
    × (l.initial.self.spare ≤ l.self.spare)
    × (length l.self.moves ≡ length l.initial.self.moves + l._k)
    × (l.initial.self.capacity ≤ l.self.capacity)
