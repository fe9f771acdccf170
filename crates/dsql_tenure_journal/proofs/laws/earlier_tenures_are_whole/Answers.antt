use Rattle.dsql_tenure_journal.proofs.Wholes.{is_whole_tenure-before}
use Rattle.dsql_tenure_journal.proofs.laws.earlier_tenures_are_whole.Goals as goal

pub returns : goal.returns
returns c = is_whole_tenure-before
