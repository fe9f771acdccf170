use Rattle.dsql_engine_laws.proofs.Leave.{leave_kept}
use Rattle.dsql_engine_laws.proofs.leaves.leave_stays.Goals as goal

pub returns : goal.returns
returns c = leave_kept
