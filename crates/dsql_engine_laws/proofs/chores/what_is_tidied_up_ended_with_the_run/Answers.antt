use Rattle.dsql_engine_laws.proofs.Tidied.{tidied_after_end}
use Rattle.dsql_engine_laws.proofs.chores.what_is_tidied_up_ended_with_the_run.Goals as goal

pub returns : goal.returns
returns c = tidied_after_end
