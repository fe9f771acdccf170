use Rattle.dsql_run.proofs.TakingUp.{TakenUp}
use Rattle.dsql_run.proofs.taking_up.take_up.Given as goal

abbrev pub invariant-loop-line : goal.invariant-loop-line
invariant-loop-line g l = TakenUp g.F.Fleet l.yielded l.initial.player l.player l.initial.fleet l.fleet
