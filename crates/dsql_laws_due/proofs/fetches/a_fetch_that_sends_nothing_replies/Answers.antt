use Rattle.dsql_laws_due.proofs.FetchReplies.{fetch_replies}
use Rattle.dsql_laws_due.proofs.fetches.a_fetch_that_sends_nothing_replies.Goals as goal

pub returns : goal.returns
returns c = fetch_replies
