use Rattle.std.proofs.Common.{◌∙◌}
use Rattle.dsql_engine_effects.specs.Ended.{works_of}
use Rattle.dsql_engine_lines.proofs.Steps.{next_heard}
use Rattle.dsql_engine_lines.proofs.inside.hear_all.Goals as goal

pub loop-call-preserved : goal.loop-call-preserved
loop-call-preserved c = (
  next_heard (works_of c.args.rows.now.items) c.args.entry.now _ _ _ _ _ _ c.loop-call-test.true c.loop-call.invariant.0 c.hear_in.ensures.items,
  c.hear_in.ensures.len ∙ c.loop-call.invariant.1,
  c.hear_in.ensures.capacity ∙ c.loop-call.invariant.2,
)
