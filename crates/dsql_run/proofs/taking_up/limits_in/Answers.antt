use Rattle.std.proofs.Common.{ap, sym, ◌∙◌}
use Rattle.dsql_run.proofs.Limits.{limit_more, limit_none}
use Rattle.dsql_run.proofs.taking_up.limits_in.Goals as goal
use Rattle.dsql_run.proofs.taking_up.limits_in.Goals.{in-Some+in_ok-push_back, in_default}

pub loop-line-preserved : goal.loop-line-preserved
loop-line-preserved c = elim c.match-limit_of.branch [
  | in-Some+in_ok-push_back w ↦ ap (λ limits. limits.items) w.limits-is
      ∙ limit_more c.args.lines.now c.loop-line.line-index c.line-item.result w.in-Some.limit c.loop-line.limits.items w.push_back.new.self.items c.loop-line-test.true c.line-item.is (sym c.limit_of.ensures ∙ w.in-Some.is) c.loop-line.invariant
      w.in_ok-push_back.ensures.items
  | in_default w ↦ ap (λ limits. limits.items) w.limits-is
      ∙ limit_none c.args.lines.now c.loop-line.line-index c.line-item.result c.loop-line.limits.items c.loop-line-test.true c.line-item.is (sym c.limit_of.ensures ∙ w.in_default.is) c.loop-line.invariant
]
