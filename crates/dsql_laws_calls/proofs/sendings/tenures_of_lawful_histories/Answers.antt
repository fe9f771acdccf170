use Rattle.dsql_laws_calls.proofs.Tenures.{lent_tenure}
use Rattle.dsql_laws_calls.proofs.sendings.tenures_of_lawful_histories.Goals as goal

pub returns : goal.returns
returns c = record { tenure = lent_tenure }
