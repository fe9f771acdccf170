use Rattle.std.proofs.Common.{refl}
use Rattle.dsql_cases_runs.proofs.ScriptOnLiterals.{script_on_literals}
use Rattle.dsql_cases_runs.proofs.worked_scripts.worked_fault_lines.Goals as goal

pub returns : goal.returns
unfolding script_on_literals
returns c = record { bad = refl; invalid = refl; fail = refl; no_words = refl; last = refl; no_connection = refl; no_call = refl; connection_too_large = refl; call_too_large = refl; leading_zero = refl; plus = refl; below_zero = refl; alone = refl; no_word = refl; empty_word = refl; two_words = refl; other_word = refl; upper_case = refl; no_array = refl; bad_array = refl; invalid_array = refl; numbers_first = refl; not_json = refl; no_text = refl; two_texts = refl; not_a_text = refl; inner_array = refl; held = refl; no_version_behind = refl }
