use Rattle.std.proofs.Common.{refl}
use Rattle.dsql_timeline_picture.specs.Lanes.{opened, entered}
use Rattle.dsql_timeline_picture.specs.Kinds.{ends}
use Rattle.dsql_timeline_picture.proofs.laws.worked_picture.Goals as goal

pub returns : goal.returns
unfolding opened entered ends
returns c = record { bars = refl }
