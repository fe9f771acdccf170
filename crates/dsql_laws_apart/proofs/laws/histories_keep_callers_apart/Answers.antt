use Rattle.dsql_laws_apart.proofs.Histories.{all_apart}
use Rattle.dsql_laws_apart.proofs.laws.histories_keep_callers_apart.Goals as goal

pub returns : goal.returns
returns c = all_apart
