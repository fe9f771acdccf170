use Rattle.dsql_engine_desk.specs.Desk.{past, Stands}
use Rattle.dsql_engine_desk.proofs.OverRows.{made_line, over_filled}
use Rattle.dsql_engine_desk.proofs.desk.Desk.next_over.Goals as goal

pub next-requires-clause-line : goal.next-requires-clause-line
next-requires-clause-line c = made_line (past c.args.self.now) c.args.query c.requires.made

pub returns : goal.returns
unfolding Stands
returns c = over_filled (past c.args.self.now) c.args.query c.args.wish c.next.result c.requires.stands.tables.lawful c.requires.made c.next.ensures
