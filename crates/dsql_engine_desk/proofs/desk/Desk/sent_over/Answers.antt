use Rattle.std.proofs.Common.{◌∙◌}
use Rattle.dsql_engine_desk.specs.Desk.{past}
use Rattle.dsql_engine_desk.proofs.SentOver.{sent_wanted}
use Rattle.dsql_engine_desk.proofs.desk.Desk.sent_over.Goals as goal

pub returns-in-Fetch : goal.returns-in-Fetch
returns-in-Fetch c asked =
    let it = sent_wanted (past c.args.self.now) c.args.query c.args.wish c.in-Fetch.is in
    c.next_over.ensures asked it.0 ∙ it.1
