use Rattle.dsql_laws_tenures.proofs.BeginKeeps.{has_ended}
use Rattle.dsql_laws_tenures.proofs.begins.a_transaction_ends_with_its_ending.Goals as goal

pub returns : goal.returns
returns c = has_ended
