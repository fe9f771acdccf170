use Rattle.dsql_wait.proofs.Queues.{leaves_the_order}
use Rattle.dsql_wait.proofs.laws.the_order_stays.Goals as goal

pub returns-clause-call : goal.returns-clause-call
returns-clause-call c = leaves_the_order
