use Rattle.std.proofs.Common.{◌∙◌}
use Rattle.dsql_run.proofs.Limits.{both_parts}
use Rattle.dsql_run.proofs.taking_up.limits_of.Goals as goal

pub returns-clause-all : goal.returns-clause-all
returns-clause-all c = rw (c.in_ok-limits_in.ensures, c.in_ok-limits_in-2.ensures) (both_parts c.args.lines.now c.first_call-at.result)

pub returns-clause-first : goal.returns-clause-first
returns-clause-first c = c.in_ok-limits_in.ensures ∙ c.first_call-at.ensures.before
