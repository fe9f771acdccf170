use Rattle.dsql_laws_tenures.proofs.Alone.{alone_on}
use Rattle.dsql_laws_tenures.proofs.tenures.what_follows_leaves_a_tenure_alone.Goals as goal

pub returns : goal.returns
returns c = alone_on
