use Rattle.std.proofs.Common.{refl}
use Rattle.dsql_cases_runs.proofs.ScriptOnLiterals.{script_on_literals}
use Rattle.dsql_cases_runs.proofs.worked_scripts.worked_label_lines.Goals as goal

pub returns : goal.returns
unfolding script_on_literals
returns c = record { query = refl; next = refl; scan = refl; rows_close = refl; err = refl; taken = refl; target_before_label = refl; shape_before_label = refl; no_text_on_rows = refl; unknown = refl; unwanted_array = refl; no_label = refl; too_many = refl }
