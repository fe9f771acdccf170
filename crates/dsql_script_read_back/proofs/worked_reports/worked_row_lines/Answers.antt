use Rattle.std.proofs.Common.{refl}
use Rattle.std.specs.Fmt.{digits}
use Rattle.serde_json.proofs.OnLiterals.{serde_json_on_literals}
use Rattle.dsql_script_read_back.proofs.worked_reports.worked_row_lines.Goals as goal

pub returns : goal.returns
unfolding digits serde_json_on_literals
returns c = record { one = refl; two = refl; query = refl; handle = refl; row = refl; end = refl; close_rows = refl; cells = refl; unsigned = refl; no_rows = refl; dest_count = refl; scan = refl }
