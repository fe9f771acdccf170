use Rattle.dsql_laws_ends.proofs.Resting.{rests_alone}
use Rattle.dsql_laws_ends.proofs.alone.who_rests_is_answered_alone.Goals as goal

pub returns : goal.returns
returns c = rests_alone
