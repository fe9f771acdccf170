use Rattle.std.proofs.Common.{reverse}
use Rattle.std.specs.VecDeque.{deque_len}
use Rattle.dsql_hall.proofs.Setting.{SetSoFar}
use Rattle.dsql_hall.proofs.limits.set_limits.Given as goal

abbrev pub invariant-loop-limit : goal.invariant-loop-limit
invariant-loop-limit l = SetSoFar (reverse l._lines.items) l.fn.limits.items l.limits.items l.fn.player l.player

abbrev pub decreases-loop-limit : goal.decreases-loop-limit
decreases-loop-limit l = deque_len l.limits
