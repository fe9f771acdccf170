use Rattle.dsql_laws_work.proofs.HandedLines.{ended_all}
use Rattle.dsql_laws_work.proofs.laws.ended_rows_are_not_live.Goals as goal

pub returns : goal.returns
returns c = ended_all
