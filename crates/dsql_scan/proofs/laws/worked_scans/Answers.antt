use Rattle.dsql_scan.proofs.Worked.{worked_scans}
use Rattle.dsql_scan.proofs.laws.worked_scans.Goals as goal

pub returns : goal.returns
returns c = worked_scans
