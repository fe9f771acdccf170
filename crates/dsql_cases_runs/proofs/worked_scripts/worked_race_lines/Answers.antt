use Rattle.std.proofs.Common.{refl}
use Rattle.dsql_cases_runs.proofs.ScriptOnLiterals.{script_on_literals}
use Rattle.dsql_cases_runs.proofs.worked_scripts.worked_race_lines.Goals as goal

pub returns : goal.returns
unfolding script_on_literals
returns c = record { tick = refl; start = refl; step = refl; step_of_house = refl; too_many_first = refl; too_long_first = refl; not_utf8_first = refl; shape_behind = refl; json_behind = refl; label_behind = refl; comment = refl; version = refl; limit = refl; fault = refl; ping = refl; unknown = refl; step_behind = refl }
