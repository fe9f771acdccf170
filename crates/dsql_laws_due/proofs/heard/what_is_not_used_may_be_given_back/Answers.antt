use Rattle.dsql_laws_due.proofs.Following.{may_leave, whole_when_unused}
use Rattle.dsql_laws_due.proofs.heard.what_is_not_used_may_be_given_back.Goals as goal

pub returns-clause-whole : goal.returns-clause-whole
returns-clause-whole c = whole_when_unused

pub returns-clause-leaves : goal.returns-clause-leaves
returns-clause-leaves c = may_leave
