use Rattle.std.proofs.Common.{sym, ◌∙◌}
use Rattle.dsql_engine_desk.specs.Desk.{past, Stands}
use Rattle.dsql_engine_desk.proofs.Makers.{begins_none}
use Rattle.dsql_engine_desk.proofs.desk.Desk.is_begun.Goals as goal

pub returns-in-None : goal.returns-in-None
unfolding Stands
returns-in-None c = sym (begins_none (past c.args.self.now) c.args.call c.requires.tables.lawful (sym c.options.ensures ∙ c.in-None.is))
