use Rattle.std.proofs.Common.{◌≡◌, map, drop}
use Rattle.dsql_course.specs.Line.{first_wanted}
use Rattle.dsql_course.specs.Meant.{meant, known}
use Rattle.dsql_course.proofs.line.Plan.first_wanted.Given as goal

abbrev pub invariant-loop-step : goal.invariant-loop-step
invariant-loop-step l =
    first_wanted l.self.course l.self.caps l.self.args (known l.found) l.made (map meant l.steps)
    ≡ first_wanted l.self.course l.self.caps l.self.args (known l.found) l.made (map meant (drop l.step-index l.steps))
