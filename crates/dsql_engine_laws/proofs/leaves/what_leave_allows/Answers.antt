use Rattle.dsql_engine_laws.proofs.Leave.{leave_opens_none, leave_shuts_none, leave_sends, leave_welcomes}
use Rattle.dsql_engine_laws.proofs.leaves.what_leave_allows.Goals as goal

pub returns-clause-opens : goal.returns-clause-opens
returns-clause-opens c = leave_opens_none

pub returns-clause-shuts : goal.returns-clause-shuts
returns-clause-shuts c = leave_shuts_none

pub returns-clause-sends : goal.returns-clause-sends
returns-clause-sends c = leave_sends

pub returns-clause-hears : goal.returns-clause-hears
returns-clause-hears c = leave_welcomes
