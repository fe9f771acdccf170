use Rattle.std.proofs.Common.{ap}
use Rattle.std.specs.Prelude.{is_ok}
use Rattle.sqlite_driver.proofs.statements.execute_plain.Goals as goal

pub returns-in-Ok : goal.returns-in-Ok
returns-in-Ok g c = λ clean. record { outcome = c.execute.result; executes = c.execute.ensures.runs clean; done_is = ap is_ok c.in-Ok.is }

pub returns-in-Err : goal.returns-in-Err
returns-in-Err g c = λ clean. record { outcome = c.execute.result; executes = c.execute.ensures.runs clean; done_is = ap is_ok c.in-Err.is }
