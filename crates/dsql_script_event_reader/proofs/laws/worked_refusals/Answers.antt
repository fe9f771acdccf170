use Rattle.std.proofs.Common.{refl}
use Rattle.std.specs.Fmt.{digits}
use Rattle.dsql_script_read_back.proofs.ScriptOnLiterals.{script_on_literals}
use Rattle.dsql_script_event_reader.proofs.laws.worked_refusals.Goals as goal

pub returns : goal.returns
unfolding digits script_on_literals
returns c = record { too_long = refl; not_utf8 = refl; not_json = refl; empty = refl; space = refl; too_great = refl; more = refl; no_word = refl; no_name = refl; ping_of_label = refl; memory = refl; no_client = refl; client_65 = refl; line_feed = refl; default_level = refl; out_of_order = refl; begin_in_transaction = refl; token = refl; no_target = refl; commit_of_database = refl; no_such_end = refl }
