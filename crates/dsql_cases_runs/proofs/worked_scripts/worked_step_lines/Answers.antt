use Rattle.std.proofs.Common.{refl}
use Rattle.dsql_cases_runs.proofs.ScriptOnLiterals.{script_on_literals}
use Rattle.dsql_cases_runs.proofs.worked_scripts.worked_step_lines.Goals as goal

pub returns : goal.returns
unfolding script_on_literals
returns c = record { step = refl; house = refl; alone = refl; no_client = refl; upper_case = refl; two_clients = refl; unwanted_array = refl; no_caps_behind = refl; no_version_behind = refl; close = refl; stats = refl; close_of_label = refl; stats_of_database = refl; close_array = refl; stats_array = refl }
