use Rattle.std.proofs.Common.{◌≡◌, take}
use Rattle.dsql_run_outcome.specs.hall.hall_steps.Limits.{settings_of}
use Rattle.dsql_run.proofs.taking_up.limits_in.Given as goal

abbrev pub invariant-loop-line : goal.invariant-loop-line
invariant-loop-line l = l.limits.items ≡ settings_of (take l.line-index l.lines)
