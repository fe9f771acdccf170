use Rattle.dsql_laws_due.proofs.Nowhere.{nowhere_replies}
use Rattle.dsql_laws_due.proofs.replies.who_has_nothing_to_do_replies.Goals as goal

pub returns : goal.returns
returns c = nowhere_replies
