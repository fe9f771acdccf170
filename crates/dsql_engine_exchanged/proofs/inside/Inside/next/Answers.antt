use Rattle.dsql_engine_exchanged.proofs.Told.{inside_so}
use Rattle.dsql_engine_exchanged.proofs.inside.Inside.next.Goals as goal

pub returns : goal.returns
returns c = inside_so c.args.self.caps c.args.self.bad c.args.aim c.args.count c.args.self.wish c.args.heard.now c.bare_next.result c.bare_next.ensures
