use Rattle.dsql_engine_exchanged.proofs.Begun.{begin_so}
use Rattle.dsql_engine_exchanged.proofs.beginning.Beginning.next.Goals as goal

pub returns : goal.returns
returns c = begin_so c.args.caps c.args.reset_due c.args.level c.args.read_only c.args.self c.bare_next.result c.bare_next.ensures
