use Rattle.std.proofs.Common.{refl}
use Rattle.std.specs.Fmt.{digits}
use Rattle.serde_json.proofs.OnLiterals.{serde_json_on_literals}
use Rattle.dsql_script_read_back.proofs.worked_reports.worked_rows_lines.Goals as goal

pub returns : goal.returns
unfolding digits serde_json_on_literals
returns c = record { query = refl; next = refl; scan = refl; rows_close = refl; err = refl; ok = refl; rows = refl; truth = refl; no_row = refl; absent = refl; closed = refl; no_next = refl }
