use Rattle.dsql_tenure_journal.proofs.Beginnings.{IsJournalPrefix-end}
use Rattle.dsql_tenure_journal.proofs.laws.beginnings_are_beginnings.Goals as goal

pub returns : goal.returns
returns c = IsJournalPrefix-end
