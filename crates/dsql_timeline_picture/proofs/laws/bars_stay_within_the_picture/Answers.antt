use Rattle.dsql_timeline_picture.proofs.Within.{all_within}
use Rattle.dsql_timeline_picture.proofs.laws.bars_stay_within_the_picture.Goals as goal

pub returns : goal.returns
returns c = all_within
