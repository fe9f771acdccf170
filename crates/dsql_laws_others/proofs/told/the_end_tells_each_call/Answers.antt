use Rattle.dsql_laws_others.proofs.Ending.{all_told_of_end}
use Rattle.dsql_laws_others.proofs.told.the_end_tells_each_call.Goals as goal

pub returns : goal.returns
returns c = all_told_of_end
