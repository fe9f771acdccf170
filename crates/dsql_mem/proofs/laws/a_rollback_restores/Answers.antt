use Rattle.dsql_mem.proofs.RollbackLaw.{rollback_restores}
use Rattle.dsql_mem.proofs.laws.a_rollback_restores.Goals as goal

pub returns : goal.returns
returns c = rollback_restores
