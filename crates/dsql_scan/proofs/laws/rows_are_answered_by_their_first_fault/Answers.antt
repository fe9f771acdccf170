use Rattle.dsql_scan.proofs.TableLaws.{rows_are_answered}
use Rattle.dsql_scan.proofs.laws.rows_are_answered_by_their_first_fault.Goals as goal

pub returns : goal.returns
returns c = rows_are_answered
