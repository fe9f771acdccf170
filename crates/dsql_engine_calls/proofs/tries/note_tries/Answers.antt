use Rattle.std.proofs.Common.{◌∙◌}
use Rattle.dsql_engine_calls.proofs.MovesMade.{next_answer, next_tried}
use Rattle.dsql_engine_calls.proofs.tries.note_tries.Goals as goal

pub loop-it-preserved : goal.loop-it-preserved
loop-it-preserved c = (
  next_tried _ _ _ _ _ _ _ _ c.loop-it-test.true (c.replace.ensures.value ∙ c.loop-it.invariant.3) c.loop-it.invariant.0 c.note_try.ensures.items,
  c.note_try.ensures.len ∙ c.loop-it.invariant.1,
  c.note_try.ensures.capacity ∙ c.loop-it.invariant.2,
  c.replace.ensures.after ∙ next_answer c.args.answer _ _ c.loop-it-test.true,
)
