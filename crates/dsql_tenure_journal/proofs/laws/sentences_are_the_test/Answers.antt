use Rattle.dsql_tenure_journal.proofs.Sentences.{MayFollow-of, of-MayFollow}
use Rattle.dsql_tenure_journal.proofs.laws.sentences_are_the_test.Goals as goal

pub returns : goal.returns
returns c = λ before e. (MayFollow-of before e, of-MayFollow before e)
