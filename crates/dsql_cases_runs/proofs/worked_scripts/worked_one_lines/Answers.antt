use Rattle.std.proofs.Common.{refl}
use Rattle.dsql_cases_runs.proofs.ScriptOnLiterals.{script_on_literals}
use Rattle.dsql_cases_runs.proofs.worked_scripts.worked_one_lines.Goals as goal

pub returns : goal.returns
unfolding script_on_literals
returns c = record { one = refl; some = refl; no_destination = refl; empty_part = refl; upper_case = refl; other_prefix = refl; no_null_form = refl; words_first = refl; no_array = refl; not_json = refl; no_text = refl; too_many_after_json = refl; too_many = refl; label = refl; token = refl }
