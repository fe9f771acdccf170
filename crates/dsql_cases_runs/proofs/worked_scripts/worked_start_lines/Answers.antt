use Rattle.std.proofs.Common.{refl}
use Rattle.dsql_cases_runs.proofs.ScriptOnLiterals.{script_on_literals}
use Rattle.dsql_cases_runs.proofs.worked_scripts.worked_start_lines.Goals as goal

pub returns : goal.returns
unfolding script_on_literals
returns c = record { exec = refl; query = refl; next = refl; stats = refl; alone = refl; no_client = refl; client_too_large = refl; client_alone = refl; no_form = refl; twice = refl; limit = refl; no_array = refl; not_json = refl; unknown = refl; taken = refl; names_label = refl; no_caps_behind = refl }
