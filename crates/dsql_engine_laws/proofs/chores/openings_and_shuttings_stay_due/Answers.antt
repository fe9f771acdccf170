use Rattle.dsql_engine_laws.proofs.StillDue.{due_stays, journal_stays, unlent_stays}
use Rattle.dsql_engine_laws.proofs.chores.openings_and_shuttings_stay_due.Goals as goal

pub returns-clause-due : goal.returns-clause-due
returns-clause-due c = due_stays

pub returns-clause-unlent : goal.returns-clause-unlent
returns-clause-unlent c = unlent_stays

pub returns-clause-journal : goal.returns-clause-journal
returns-clause-journal c = journal_stays
