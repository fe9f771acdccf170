use Rattle.std.proofs.Common.{arith, ◌∙◌}
use Rattle.dsql_engine_pooling.proofs.Moves.{next_noted}
use Rattle.dsql_engine_pooling.proofs.log.EventLog.note_moves.Goals as goal

pub loop-made-preserved : goal.loop-made-preserved
loop-made-preserved c = (
  next_noted _ _ _ _ _ _ c.loop-made-test.true c.loop-made.invariant.0 c.note.ensures.past,
  c.note.ensures.trimmed ∙ c.loop-made.invariant.1,
  omega (arith, c.note.ensures.spare, c.loop-made.invariant.2),
)
