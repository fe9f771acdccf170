use Rattle.std.proofs.Common.{refl}
use Rattle.dsql_cases_runs.proofs.ScriptOnLiterals.{script_on_literals}
use Rattle.dsql_cases_runs.proofs.worked_scripts.worked_tick_lines.Goals as goal

pub returns : goal.returns
unfolding script_on_literals
returns c = record { first = refl; later = refl; last = refl; too_late = refl; below_zero = refl; leading_zero = refl; plus = refl; no_number = refl; empty_word = refl; two_numbers = refl; unwanted_array = refl; held = refl; no_version_behind = refl }
