use Rattle.std.proofs.Common.{sym, ◌∙◌}
use Rattle.dsql_engine_desk.specs.Desk.{past, Stands}
use Rattle.dsql_engine_desk.proofs.NextLines.{next_begins, next_in_tx, next_on_db}
use Rattle.dsql_engine_desk.proofs.desk.Desk.next_on.Goals as goal

pub returns-in-Some : goal.returns-in-Some
unfolding Stands
returns-in-Some c =
    next_begins (past c.args.self.now) c.args.call c.args.conn c.args.wish c.in-Some.level c.in-Some.read_only c.begins_next.result c.requires.stands.tables.lawful c.requires.lent (sym c.options.ensures ∙ c.in-Some.is)
    c.begins_next.ensures

pub returns-in-Db : goal.returns-in-Db
unfolding Stands
returns-in-Db c =
    next_on_db (past c.args.self.now) c.args.call c.args.conn c.args.wish c.sends_next.result c.requires.stands.tables.lawful c.requires.lent c.requires.line (sym c.options.ensures ∙ c.in-None.is)
    (sym c.scope.ensures ∙ c.in-Db.is) c.sends_next.ensures

pub returns-in-Held : goal.returns-in-Held
unfolding Stands
returns-in-Held c =
    next_in_tx (past c.args.self.now) c.args.call c.args.conn c.in-Held.field-0 c.args.wish c.goes_next.result c.requires.stands.tables.lawful c.requires.lent (sym c.options.ensures ∙ c.in-None.is)
    (sym c.scope.ensures ∙ c.in-Held.is) c.goes_next.ensures
