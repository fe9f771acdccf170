use Rattle.dsql_tenure.proofs.WholeEnds.{has_whole_end}
use Rattle.dsql_tenure.proofs.laws.beginnings_have_a_whole_end.Goals as goal

pub returns : goal.returns
returns c = has_whole_end
