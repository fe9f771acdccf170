use Rattle.std.proofs.Common.{refl}
use Rattle.dsql_cases_runs.proofs.ScriptOnLiterals.{script_on_literals}
use Rattle.dsql_cases_runs.proofs.worked_scripts.worked_limit_lines.Goals as goal

pub returns : goal.returns
unfolding script_on_literals
returns c = record { max_open = refl; max_idle = refl; below_zero = refl; greatest = refl; least = refl; max_life = refl; max_idle_time = refl; life_too_long = refl; no_idle_time = refl; too_great = refl; too_small = refl; leading_zero = refl; zero_behind_minus = refl; plus = refl; minus_alone = refl; fraction = refl; no_number = refl; empty_word = refl; two_numbers = refl; unwanted_array = refl; no_version_behind = refl }
