use Rattle.dsql_run.proofs.Limits.{FirstSoFar}
use Rattle.dsql_run.proofs.taking_up.first_call.Given as goal

abbrev pub invariant-loop-place : goal.invariant-loop-place
invariant-loop-place l = FirstSoFar l.lines l.place
