use Rattle.dsql_engine_desk.specs.Desk.{past}
use Rattle.dsql_engine_desk.proofs.FewCalls.{few_works}
use Rattle.dsql_engine_desk.proofs.desk.Desk.note_end.Goals as goal

pub add_end-requires-clause-few : goal.add_end-requires-clause-few
add_end-requires-clause-few c = few_works (past c.args.self.now) c.requires.may.few
