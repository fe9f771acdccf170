use Rattle.dsql_tenure_journal.proofs.Beginnings.{IsWhole-cons}
use Rattle.dsql_tenure_journal.proofs.laws.whole_by_the_last_entry.Goals as goal

pub returns : goal.returns
returns c = IsWhole-cons
