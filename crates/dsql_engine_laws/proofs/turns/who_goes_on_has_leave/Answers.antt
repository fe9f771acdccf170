use Rattle.dsql_engine_laws.proofs.Turning.{goes_with_leave, goes_itself, goes_flying, goes_last}
use Rattle.dsql_engine_laws.proofs.turns.who_goes_on_has_leave.Goals as goal

pub returns-clause-leave : goal.returns-clause-leave
returns-clause-leave c = goes_with_leave

pub returns-clause-itself : goal.returns-clause-itself
returns-clause-itself c = goes_itself

pub returns-clause-flies : goal.returns-clause-flies
returns-clause-flies c = goes_flying

pub returns-clause-last : goal.returns-clause-last
returns-clause-last c = goes_last
