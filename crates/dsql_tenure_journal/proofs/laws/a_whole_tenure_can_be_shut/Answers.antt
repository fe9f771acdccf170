use Rattle.dsql_tenure_journal.proofs.Tenures.{IsWhole-shut}
use Rattle.dsql_tenure_journal.proofs.laws.a_whole_tenure_can_be_shut.Goals as goal

pub returns : goal.returns
returns c = λ before conn t answer one may fit heard. IsWhole-shut before conn t one answer may fit heard
