use Rattle.std.proofs.Common.{reverse, ◌∙◌, sym}
use Rattle.dsql_hall.proofs.Setting.{all_so_far, none_so_far, one_so_far, stays_so_far}
use Rattle.dsql_hall.proofs.limits.set_limits.Goals as goal

pub loop-limit-init : goal.loop-limit-init
loop-limit-init c = none_so_far (reverse c.args._lines.now.items) c.args.limits.items c.args.player.now c.requires.ready c.requires.at c.requires.limits

pub returns-in_err-check_room-clause-sets : goal.returns-in_err-check_room-clause-sets
returns-in_err-check_room-clause-sets c = c.loop-limit.invariant.sets

pub control-requires-clause-ready : goal.control-requires-clause-ready
control-requires-clause-ready c = c.loop-limit.invariant.ready

pub loop-limit-preserved : goal.loop-limit-preserved
loop-limit-preserved c =
    one_so_far (reverse c.args._lines.now.items) c.args.limits.items c.loop-limit.limits.items c.pop_front.new.self.items c.in-Some.limit c.args.player.now c.loop-limit.player c.control.new.self c.loop-limit.invariant c.in-Some.ensures.items
    c.in_ok-control.ensures.tells c.in_ok-control.ensures.act.ready c.in_ok-control.ensures.course.ended c.in_ok-control.ensures.act.unheard c.in_ok-control.ensures.act.legal c.in_ok-control.ensures.trimmed

pub returns-in_err-control-clause-sets : goal.returns-in_err-control-clause-sets
returns-in_err-control-clause-sets c =
    stays_so_far (reverse c.args._lines.now.items) c.args.limits.items c.args.player.now c.loop-limit.player c.control.new.self c.loop-limit.invariant.sets c.in_err-control.ensures.act.fails.same c.in_err-control.ensures.trimmed

pub returns-clause-ready : goal.returns-clause-ready
returns-clause-ready c = c.loop-limit.invariant.ready

pub returns-clause-at : goal.returns-clause-at
returns-clause-at c = c.loop-limit.invariant.at

pub returns-clause-set : goal.returns-clause-set
returns-clause-set c =
    all_so_far (reverse c.args._lines.now.items) c.args.limits.items c.loop-limit.limits.items c.args.player.now c.loop-limit.player c.loop-limit.invariant (sym c.loop-limit.limits.ok.0 ∙ c.in_default.ensures.cases.0)

pub returns-clause-sets : goal.returns-clause-sets
returns-clause-sets c = c.loop-limit.invariant.sets
