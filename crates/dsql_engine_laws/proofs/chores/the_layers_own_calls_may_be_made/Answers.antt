use Rattle.dsql_engine_laws.proofs.Made.{chore_made}
use Rattle.dsql_engine_laws.proofs.chores.the_layers_own_calls_may_be_made.Goals as goal

pub returns : goal.returns
returns c = chore_made
