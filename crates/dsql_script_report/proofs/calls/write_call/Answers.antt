use Rattle.dsql_script_report.proofs.calls.write_call.Goals as goal

pub returns-in-CloseStmt : goal.returns-in-CloseStmt
returns-in-CloseStmt c = rw c.in-CloseStmt.is c.write_numbered.ensures

pub returns-in-Rollback : goal.returns-in-Rollback
returns-in-Rollback c = rw c.in-Rollback.is c.write_word-in-Rollback.ensures
