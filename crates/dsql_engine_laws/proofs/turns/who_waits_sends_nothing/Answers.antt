use Rattle.dsql_engine_laws.proofs.Blocked.{same_when_blocked, same_when_replied}
use Rattle.dsql_engine_laws.proofs.turns.who_waits_sends_nothing.Goals as goal

pub returns-clause-blocked : goal.returns-clause-blocked
returns-clause-blocked c = same_when_blocked

pub returns-clause-replied : goal.returns-clause-replied
returns-clause-replied c = same_when_replied
