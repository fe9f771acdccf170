use Rattle.std.proofs.Common.{◌≡◌, take}
use Rattle.dsql_mem_plans.specs.Plans.{plans_for}
use Rattle.dsql_mem_plans.proofs.plans.plans_for.Given as goal

abbrev pub invariant-loop-wire : goal.invariant-loop-wire
invariant-loop-wire l = l.own.items ≡ plans_for l.number (take l.wire-index l.plans)
