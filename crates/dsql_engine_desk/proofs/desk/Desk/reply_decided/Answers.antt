use Rattle.dsql_engine_desk.proofs.KeptOfCalls.{decides_kept}
use Rattle.dsql_engine_desk.proofs.desk.Desk.reply_decided.Goals as goal

pub returns : goal.returns
returns c = decides_kept c.args.self.now c.args.entry.now c.decided_by.result c.requires c.decided_by.ensures
