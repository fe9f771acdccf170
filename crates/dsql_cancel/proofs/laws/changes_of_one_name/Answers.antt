use Rattle.dsql_cancel.proofs.Meaning.{changes_one_name}
use Rattle.dsql_cancel.proofs.laws.changes_of_one_name.Goals as goal

pub returns : goal.returns
returns c = changes_one_name
