-- Each answer is the one that the session's own contract names, once the call is known.
use Rattle.std.proofs.lemmas.Result.{IfOk-weaker}
use Rattle.dsql_mem_calls.proofs.calls.step.Goals as goal

pub returns-in-CloseStmt-clause-answer : goal.returns-in-CloseStmt-clause-answer
returns-in-CloseStmt-clause-answer c =
    rw c.in-CloseStmt.is (IfOk-weaker c.close.result _ _ (λ answered kept. kept.copies) c.close.ensures.served)

pub returns-in-Next-clause-answer : goal.returns-in-Next-clause-answer
returns-in-Next-clause-answer c =
    rw c.in-Next.is (IfOk-weaker c.take_row.result _ _ (λ answered kept. kept.copies) c.take_row.ensures.served)

pub returns-in-CloseRows-clause-answer : goal.returns-in-CloseRows-clause-answer
returns-in-CloseRows-clause-answer c =
    rw c.in-CloseRows.is (IfOk-weaker c.close_rows.result _ _ (λ answered kept. kept.copies) c.close_rows.ensures.served)
