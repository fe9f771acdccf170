use Rattle.dsql_engine_laws.proofs.Placed.{meets_no_other}
use Rattle.dsql_engine_laws.proofs.chores.the_layers_own_calls_meet_no_others.Goals as goal

pub returns : goal.returns
returns c = meets_no_other
