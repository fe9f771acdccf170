use Rattle.dsql_engine_exchanged.proofs.Sent.{told_so}
use Rattle.dsql_engine_exchanged.proofs.line.Line.next.Goals as goal

pub returns : goal.returns
returns c = told_so c.args.self.caps c.args.self.reset_due c.args.aim c.args.count c.args.self.wish c.args.heard.now c.bare_next.result c.bare_next.ensures
