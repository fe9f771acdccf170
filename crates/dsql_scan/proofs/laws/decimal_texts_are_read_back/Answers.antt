use Rattle.dsql_scan.proofs.SpellingLaws.{decimals_are_read_back}
use Rattle.dsql_scan.proofs.laws.decimal_texts_are_read_back.Goals as goal

pub returns : goal.returns
returns c = decimals_are_read_back
