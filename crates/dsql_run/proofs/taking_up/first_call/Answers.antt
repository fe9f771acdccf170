use Rattle.std.proofs.Common.{sym, ◌∙◌}
use Rattle.dsql_run.proofs.Limits.{first_more}
use Rattle.dsql_run.proofs.taking_up.first_call.Goals as goal

pub loop-place-preserved : goal.loop-place-preserved
loop-place-preserved c =
    first_more c.args.lines.now c.loop-place.place c.index-lines-place.result c.loop-place-test.true c.index-lines-place.is (sym c.makes_call.ensures ∙ c.if-makes_call.false) c.loop-place.invariant
