use Rattle.std.proofs.Common.{refl}
use Rattle.std.specs.Fmt.{digits}
use Rattle.serde_json.proofs.OnLiterals.{serde_json_on_literals}
use Rattle.dsql_cases_runs.proofs.worked_reports.worked_call_lines.Goals as goal

pub returns : goal.returns
unfolding digits serde_json_on_literals
returns c = record { lend = refl; begin = refl; rollback = refl; exec = refl; query = refl; one = refl; exec_on_database = refl; query_on_database = refl; one_on_database = refl }
