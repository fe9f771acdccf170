use Rattle.dsql_scan.proofs.SpellingLaws.{decimal_value-IsDecimal}
use Rattle.dsql_scan.proofs.laws.digits_stand_for_their_decimal_number.Goals as goal

pub returns : goal.returns
returns c = decimal_value-IsDecimal
