use Rattle.dsql_laws_ends.proofs.Ended.{over_where_run_out}
use Rattle.dsql_laws_ends.proofs.over.a_run_that_ended_and_has_run_out_is_over.Goals as goal

pub returns : goal.returns
returns c = over_where_run_out
