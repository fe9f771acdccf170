use Rattle.dsql_engine_exchanged.proofs.Begun.{begin_heard}
use Rattle.dsql_engine_exchanged.proofs.beginning.Beginning.hear_if.Goals as goal

pub returns-clause-line : goal.returns-clause-line
returns-clause-line c = λ heard none is. begin_heard c.args.call c.args.entry.now heard c.args.self.now c.hear_own.new.self c.hear_own.ensures none is
