use Rattle.dsql_tenure_journal.proofs.Beginnings.{IsJournalPrefix-cons}
use Rattle.dsql_tenure_journal.proofs.laws.beginnings_grow.Goals as goal

pub returns : goal.returns
returns c = IsJournalPrefix-cons
