use Rattle.dsql_laws_ends.proofs.RunOut.{quiet_where_run_out}
use Rattle.dsql_laws_ends.proofs.quiet.who_has_run_out_is_quiet.Goals as goal

pub returns : goal.returns
returns c = quiet_where_run_out
