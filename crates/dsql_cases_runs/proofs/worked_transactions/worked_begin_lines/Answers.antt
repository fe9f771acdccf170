use Rattle.std.proofs.Common.{refl}
use Rattle.dsql_cases_runs.proofs.ScriptOnLiterals.{script_on_literals}
use Rattle.dsql_cases_runs.proofs.worked_transactions.worked_begin_lines.Goals as goal

pub returns : goal.returns
unfolding script_on_literals
returns c = record { begin = refl; last_client = refl; held = refl; read_only = refl; both = refl; read_uncommitted = refl; read_committed = refl; write_committed = refl; repeatable_read = refl; snapshot = refl; serializable = refl; linearizable = refl; default_level = refl; no_level = refl; upper_case = refl; two_levels = refl; out_of_order = refl; twice = refl; other_option = refl; empty_word = refl; alone = refl; no_target = refl; no_label = refl; no_such_target = refl; unwanted_array = refl; two_tokens = refl; option_behind_token = refl; token = refl; token_behind_options = refl; label = refl; label_of_transaction = refl; taken = refl; taken_by_rows = refl; token_before_label = refl; no_version_behind = refl }
