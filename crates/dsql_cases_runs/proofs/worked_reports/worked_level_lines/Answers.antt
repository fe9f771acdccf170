use Rattle.std.proofs.Common.{refl}
use Rattle.std.specs.Fmt.{digits}
use Rattle.serde_json.proofs.OnLiterals.{serde_json_on_literals}
use Rattle.dsql_cases_runs.proofs.worked_reports.worked_level_lines.Goals as goal

pub returns : goal.returns
unfolding digits serde_json_on_literals
returns c = record { default = refl; read_uncommitted = refl; read_committed = refl; write_committed = refl; repeatable_read = refl; snapshot = refl; serializable = refl; linearizable = refl }
