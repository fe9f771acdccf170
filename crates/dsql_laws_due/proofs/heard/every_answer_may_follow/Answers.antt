use Rattle.dsql_laws_due.proofs.Following.{follows_due, follows_shut}
use Rattle.dsql_laws_due.proofs.heard.every_answer_may_follow.Goals as goal

pub returns-clause-due : goal.returns-clause-due
returns-clause-due c = follows_due

pub returns-clause-shut : goal.returns-clause-shut
returns-clause-shut c = follows_shut
