use Rattle.dsql_tenure_journal.proofs.Numbers.{handles_named-one, cursors_named-one}
use Rattle.dsql_tenure_journal.proofs.laws.numbers_name_one.Goals as goal

pub returns : goal.returns
returns c = record { handles = handles_named-one; cursors = cursors_named-one }
