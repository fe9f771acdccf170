use Rattle.std.proofs.Common.{refl}
use Rattle.dsql_cases_runs.proofs.ScriptOnLiterals.{script_on_literals}
use Rattle.dsql_cases_runs.proofs.worked_transactions.worked_transaction_lines.Goals as goal

pub returns : goal.returns
unfolding script_on_literals
returns c = record { exec = refl; text_alone = refl; query = refl; one = refl; next = refl; commit = refl; rollback = refl; held = refl; names_label = refl; unknown_target = refl; rows_for_target = refl; token = refl; ping = refl; target_before_label = refl; label_of_target = refl; label_of_transaction = refl; too_many_first = refl; json_first = refl; unknown = refl; commit_of_rows = refl; next_of_transaction = refl; scan_of_transaction = refl; commit_alone = refl; commit_of_database = refl; two_labels = refl; token_of_rollback = refl; unwanted_array = refl; no_caps_behind = refl }
