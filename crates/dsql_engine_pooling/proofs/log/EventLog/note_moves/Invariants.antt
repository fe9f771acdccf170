-- The moves so far are appended.
use Rattle.std.proofs.Common.{◌≡◌, ◌+◌, take}
use Rattle.dsql_laws.specs.OwedMade.{with_moves}
use Rattle.dsql_engine_pooling.proofs.log.EventLog.note_moves.Given as goal

abbrev pub invariant-loop-made : goal.invariant-loop-made
invariant-loop-made l =
    (l.self.past ≡ with_moves (take l.made-index l.moves) l.fn.self.past)
    × (l.self.trimmed ≡ l.fn.self.trimmed)
    × (l.self.spare + l.made-index ≡ l.fn.self.spare)
