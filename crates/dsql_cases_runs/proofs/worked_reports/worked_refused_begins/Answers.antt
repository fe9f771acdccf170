use Rattle.std.proofs.Common.{refl}
use Rattle.std.specs.Fmt.{digits}
use Rattle.serde_json.proofs.OnLiterals.{serde_json_on_literals}
use Rattle.dsql_cases_runs.proofs.worked_reports.worked_refused_begins.Goals as goal

pub returns : goal.returns
unfolding digits serde_json_on_literals
returns c = record { level = refl; read_only = refl }
