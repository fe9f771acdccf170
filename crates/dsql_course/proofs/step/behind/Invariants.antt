use Rattle.std.proofs.Common.{◌≡◌, map, drop}
use Rattle.dsql_course.specs.Steps.{behind}
use Rattle.dsql_course.specs.Meant.{meant}
use Rattle.dsql_course.proofs.step.behind.Given as goal

abbrev pub invariant-loop-i : goal.invariant-loop-i
invariant-loop-i l = behind (meant l.step) (map meant l.all) ≡ behind (meant l.step) (map meant (drop l.i l.all))
