use Rattle.std.proofs.Common.{refl}
use Rattle.std.specs.Fmt.{digits}
use Rattle.dsql_script_read_back.proofs.ScriptOnLiterals.{script_on_literals}
use Rattle.dsql_script_event_reader.proofs.laws.worked_event_lines.Goals as goal

pub returns : goal.returns
unfolding digits script_on_literals
returns c = record { back = refl; limit = refl; next = refl; ping = refl; client_64 = refl; ended = refl }
