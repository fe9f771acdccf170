use Rattle.dsql_engine_exchanged.proofs.Open.{line_heard}
use Rattle.dsql_engine_exchanged.proofs.heard.HeardLine.hear_if.Goals as goal

pub returns-clause-line : goal.returns-clause-line
returns-clause-line c = λ heard fresh is. line_heard c.args.call c.args.entry.now heard c.args.self.now c.hear_own.new.self c.hear_own.ensures fresh is
