use Rattle.dsql_engine_exchanged.proofs.Ended.{ending_so}
use Rattle.dsql_engine_exchanged.proofs.ending.Ending.next.Goals as goal

pub returns : goal.returns
returns c = λ asked before heard same ended tested. ending_so c.args.caps c.args.end c.args.self c.bare_next.result c.bare_next.ensures asked before heard same ended tested
