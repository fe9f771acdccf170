use Rattle.std.proofs.Common.{refl}
use Rattle.dsql_cases_runs.proofs.ScriptOnLiterals.{script_on_literals}
use Rattle.dsql_cases_runs.proofs.worked_scripts.worked_script_lines.Goals as goal

pub returns : goal.returns
unfolding script_on_literals
returns c = record { exec = refl; last_client = refl; comment = refl; empty = refl; too_many = refl; too_long = refl; not_utf8 = refl; client_too_large = refl; leading_zero = refl; no_array = refl; words_first = refl; not_json = refl; no_text = refl; arguments = refl; named_argument = refl; largest = refl; out_of_range = refl; upper_case = refl; fraction = refl; no_such_form = refl; too_many_arguments = refl; version = refl; later_version = refl; second_version = refl; no_caps = refl; some_caps = refl; caps_out_of_order = refl; caps_twice = refl; label = refl; token = refl }
