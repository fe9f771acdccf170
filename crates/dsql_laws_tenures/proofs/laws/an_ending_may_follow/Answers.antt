use Rattle.dsql_laws_tenures.proofs.Inside.{ending_follows, ending_follows-bad}
use Rattle.dsql_laws_tenures.proofs.laws.an_ending_may_follow.Goals as goal

pub returns : goal.returns
returns c = record { closed = ending_follows; bad = ending_follows-bad }
