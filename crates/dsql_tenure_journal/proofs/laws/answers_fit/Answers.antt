use Rattle.dsql_tenure_journal.proofs.Beginnings.{answers_fit as lem}
use Rattle.dsql_tenure_journal.proofs.laws.answers_fit.Goals as goal

pub returns : goal.returns
returns c = lem
