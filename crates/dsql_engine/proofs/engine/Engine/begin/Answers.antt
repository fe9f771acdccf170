use Rattle.dsql_engine.proofs.Legality.{legal_at_first}
use Rattle.dsql_engine.proofs.engine.Engine.begin.Goals as goal

pub returns-clause-legal : goal.returns-clause-legal
returns-clause-legal c =
    let e = c.start.ensures in legal_at_first c.start.result c.args.version c.args.caps e.stands e.settled e.past
