use Rattle.std.proofs.Common.{sym, ◌∙◌}
use Rattle.dsql_engine_desk.specs.Desk.{past}
use Rattle.dsql_engine_desk.proofs.Makers.{hands_none}
use Rattle.dsql_engine_desk.proofs.desk.Desk.has_handed_out.Goals as goal

pub returns-in_default : goal.returns-in_default
returns-in_default c = sym (hands_none (past c.args.self.now) c.args.call (λ is. c.in_default.not-HandOut (c.aim.ensures ∙ is)))
