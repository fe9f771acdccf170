-- The closings before the place are carried out.
use Rattle.std.proofs.Common.{◌≡◌, ◌≤◌, take}
use Rattle.dsql_pool.specs.Moved.{made}
use Rattle.dsql_pool.proofs.pool.Pool.close_noted.Given as goal

abbrev pub invariant-loop-at : goal.invariant-loop-at
invariant-loop-at l =
    (l.self.pooled ≡ made (take l.at l.initial.self.moves) l.initial.self.pooled)
    × (l.self.moves ≡ l.initial.self.moves)
    × (l.self.pooled.drawn ≡ l.initial.self.pooled.drawn)
    × (l.initial.self.spare ≤ l.self.spare)
    × (l.self.capacity ≡ l.initial.self.capacity)
