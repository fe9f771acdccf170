use Rattle.std.proofs.Common.{refl}
use Rattle.std.specs.Fmt.{digits}
use Rattle.hex.specs.Hex.{encode_with}
use Rattle.serde_json.proofs.OnLiterals.{serde_json_on_literals}
use Rattle.dsql_script_read_back.proofs.worked_reports.worked_argument_lines.Goals as goal

pub returns : goal.returns
unfolding digits encode_with serde_json_on_literals
returns c = record { numbers = refl; bytes = refl; name = refl; num_args = refl; high_bit = refl; named = refl; bad_name = refl }
