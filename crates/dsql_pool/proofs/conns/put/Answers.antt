use Rattle.std.proofs.Common.{sym}
use Rattle.dsql_pool.proofs.Rows.{put_some, put_none}
use Rattle.dsql_pool.proofs.conns.put.Goals as goal

pub returns-in-Some-clause-rows : goal.returns-in-Some-clause-rows
returns-in-Some-clause-rows c = put_some c.args.conn.number c.in-Some.at c.args.conn c.args.rows.now.items c.in-Some.ensures.place

pub returns-in-None-clause-rows : goal.returns-in-None-clause-rows
returns-in-None-clause-rows c = sym (put_none c.args.conn.number (λ _. c.args.conn) c.args.rows.now.items c.in-None.ensures.place)
