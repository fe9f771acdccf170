use Rattle.dsql_tenure_journal.proofs.Beginnings.{may_follow-whole}
use Rattle.dsql_tenure_journal.proofs.laws.nothing_follows_a_whole_journal.Goals as goal

pub returns : goal.returns
returns c = may_follow-whole
