use Rattle.dsql_cancel.proofs.Meaning.{told_once}
use Rattle.dsql_cancel.proofs.laws.names_are_told_once.Goals as goal

pub returns : goal.returns
returns c = told_once
