use Rattle.dsql_laws_tenures.proofs.Inside.{due_follows}
use Rattle.dsql_laws_tenures.proofs.laws.what_is_due_inside_may_follow.Goals as goal

pub returns : goal.returns
returns c = due_follows
