use Rattle.dsql_scan.proofs.SpellingLaws.{only_digits_spell}
use Rattle.dsql_scan.proofs.laws.only_digits_spell_numbers.Goals as goal

pub returns : goal.returns
returns c = only_digits_spell
