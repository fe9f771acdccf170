use Rattle.dsql_scan.proofs.TableLaws.{only_texts_spell}
use Rattle.dsql_scan.proofs.laws.bytes_that_are_no_text_spell_nothing.Goals as goal

pub returns : goal.returns
returns c = only_texts_spell
