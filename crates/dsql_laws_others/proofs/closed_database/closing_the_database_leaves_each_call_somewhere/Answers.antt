use Rattle.dsql_laws_others.proofs.ClosedDatabase.{closed_goes_on, closed_used}
use Rattle.dsql_laws_others.proofs.EndOfRun.{ended_used}
use Rattle.dsql_laws_others.proofs.closed_database.closing_the_database_leaves_each_call_somewhere.Goals as goal

pub returns-clause-others : goal.returns-clause-others
returns-clause-others c = closed_goes_on

pub returns-clause-used : goal.returns-clause-used
returns-clause-used c = closed_used

pub returns-clause-ended : goal.returns-clause-ended
returns-clause-ended c = ended_used
