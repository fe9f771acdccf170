use Rattle.std.proofs.Common.{refl}
use Rattle.std.specs.Fmt.{digits}
use Rattle.dsql_script_read_back.proofs.ScriptOnLiterals.{script_on_literals}
use Rattle.dsql_script_event_reader.proofs.laws.worked_transaction_lines.Goals as goal

pub returns : goal.returns
unfolding digits script_on_literals
returns c = record { lend = refl; begin = refl; read_only = refl; leveled = refl; both = refl; commit = refl; rollback = refl; exec = refl; on_database = refl; query = refl; one = refl; heard = refl; committed = refl; canceled = refl; end_of_run = refl; isolation = refl; reads_alone = refl }
