use Rattle.dsql_laws_tenures.proofs.BeginFollows.{begin_follows}
use Rattle.dsql_laws_tenures.proofs.begins.what_a_begin_sends_may_follow.Goals as goal

pub returns : goal.returns
returns c = begin_follows
