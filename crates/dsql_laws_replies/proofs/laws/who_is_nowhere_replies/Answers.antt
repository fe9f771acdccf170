use Rattle.dsql_laws_replies.proofs.Served.{served_replies}
use Rattle.dsql_laws_replies.proofs.EndReplies.{end_replies}
use Rattle.dsql_laws_replies.proofs.Fetches.{fetch_replies}
use Rattle.dsql_laws_replies.proofs.InsideReplies.{inside_replies}
use Rattle.dsql_laws_replies.proofs.Nowhere.{nowhere_replies}
use Rattle.dsql_laws_replies.proofs.laws.who_is_nowhere_replies.Goals as goal

pub returns-clause-served : goal.returns-clause-served
returns-clause-served c = served_replies

pub returns-clause-inside : goal.returns-clause-inside
returns-clause-inside c = inside_replies

pub returns-clause-ends : goal.returns-clause-ends
returns-clause-ends c = end_replies

pub returns-clause-fetches : goal.returns-clause-fetches
returns-clause-fetches c = fetch_replies

pub returns-clause-nowhere : goal.returns-clause-nowhere
returns-clause-nowhere c = nowhere_replies
