use Rattle.std.proofs.Common.{arith, ◌∙◌}
use Rattle.dsql_engine_lines.proofs.Steps.{next_lent}
use Rattle.dsql_engine_lines.proofs.there.note_all_lent.Goals as goal

pub loop-it-preserved : goal.loop-it-preserved
loop-it-preserved c = (
  next_lent _ _ _ _ _ _ c.loop-it-test.true c.loop-it.invariant.0 c.note_lent.ensures.items,
  omega (arith, c.note_lent.ensures.len, c.loop-it.invariant.1),
  c.note_lent.ensures.capacity ∙ c.loop-it.invariant.2,
)
