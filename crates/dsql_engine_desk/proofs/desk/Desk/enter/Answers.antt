use Rattle.dsql_engine_desk.specs.Desk.{past}
use Rattle.dsql_engine_desk.proofs.FewCalls.{few_works}
use Rattle.dsql_engine_desk.proofs.desk.Desk.enter.Goals as goal

pub add_call-requires-clause-few : goal.add_call-requires-clause-few
add_call-requires-clause-few c = few_works (past c.args.self.now) c.requires.may.few
