use Rattle.std.proofs.Common.{refl}
use Rattle.dsql_cases_runs.proofs.ScriptOnLiterals.{script_on_literals}
use Rattle.dsql_cases_runs.proofs.worked_scripts.worked_ping_lines.Goals as goal

pub returns : goal.returns
unfolding script_on_literals
returns c = record { ping = refl; last_client = refl; held = refl; alone = refl; empty_word = refl; upper_case = refl; two_words = refl; three_words = refl; unwanted_array = refl; array_before_label = refl; label = refl; rows = refl; token = refl; no_version_behind = refl }
