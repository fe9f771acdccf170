use Rattle.dsql_pool.proofs.Rows.{row_at, row_nowhere}
use Rattle.dsql_pool.proofs.conns.row_of.Goals as goal

pub returns-in-Some : goal.returns-in-Some
returns-in-Some c = row_at c.args.conn c.in-Some.at c.index.result.now c.args.rows.now.items c.in-Some.ensures.place c.index.ensures

pub returns-in-None : goal.returns-in-None
returns-in-None c = row_nowhere c.args.conn c.args.rows.now.items c.in-None.ensures.place
