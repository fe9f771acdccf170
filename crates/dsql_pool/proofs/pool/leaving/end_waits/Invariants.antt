-- The waits so far are counted, and the others are still to be counted.
use Rattle.std.proofs.Common.{◌≡◌, ◌≤◌, length}
use Rattle.std.specs.Prelude.{fold}
use Rattle.dsql_pool.specs.Counted.{with_wait}
use Rattle.dsql_pool.proofs.pool.leaving.end_waits.Given as goal

abbrev pub invariant-loop-request : goal.invariant-loop-request
invariant-loop-request l =
    (fold (with_wait l.moment) l.total l.waiting.requests ≡ fold (with_wait l.moment) l.waited l.initial.waiting.requests)
    × (l.initial.waiting.spare ≤ l.waiting.spare)

abbrev pub decreases-loop-request : goal.decreases-loop-request
decreases-loop-request l = length l.waiting.requests
