use Rattle.dsql_engine_desk.proofs.AtEntry.{commit_so, rollback_so}
use Rattle.dsql_engine_desk.proofs.desk.Desk.entering.Goals as goal

pub returns-in-Commit : goal.returns-in-Commit
returns-in-Commit c = commit_so c.args.self.now c.args.op.now c.in-Commit.tx c.entering_end.result c.requires.stands c.requires.few c.in-Commit.is c.entering_end.ensures

pub returns-in-Rollback : goal.returns-in-Rollback
returns-in-Rollback c = rollback_so c.args.self.now c.args.op.now c.in-Rollback.tx c.entering_end-in-Rollback.result c.requires.stands c.requires.few c.in-Rollback.is c.entering_end-in-Rollback.ensures
