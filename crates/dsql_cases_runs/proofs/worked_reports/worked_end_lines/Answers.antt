use Rattle.std.proofs.Common.{refl}
use Rattle.std.specs.Fmt.{digits}
use Rattle.serde_json.proofs.OnLiterals.{serde_json_on_literals}
use Rattle.dsql_cases_runs.proofs.worked_reports.worked_end_lines.Goals as goal

pub returns : goal.returns
unfolding digits serde_json_on_literals
returns c = record { commit = refl; rollback = refl; committed = refl; rolled_back = refl; canceled = refl; deadline = refl; end_of_run = refl; rows = refl; absent = refl }
