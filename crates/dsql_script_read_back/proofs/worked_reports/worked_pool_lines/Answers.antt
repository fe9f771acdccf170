use Rattle.std.proofs.Common.{refl}
use Rattle.std.specs.Fmt.{digits}
use Rattle.serde_json.proofs.OnLiterals.{serde_json_on_literals}
use Rattle.dsql_script_read_back.proofs.worked_reports.worked_pool_lines.Goals as goal

pub returns : goal.returns
unfolding digits serde_json_on_literals
returns c = record { wait = refl; max_open = refl; max_idle = refl; max_life = refl; max_idle_time = refl; first_moment = refl; last_moment = refl; open_for_call = refl; open_for_list = refl; bad = refl; invalid = refl; over_limit = refl; idle_full = refl; lifetime = refl; idle_time = refl; db_closed = refl; discarded = refl; ping = refl; db_close = refl; stats = refl; too_many = refl; closed_by_call = refl; closed_by_end = refl; told = refl }
