use Rattle.dsql_run_outcome.proofs.Ending.{plays_finished}
use Rattle.dsql_run_outcome.proofs.Saying.{first_plays, plays_first}
use Rattle.dsql_run_outcome.proofs.laws.what_a_run_has_of_its_script.Goals as goal

pub returns-clause-first : goal.returns-clause-first
returns-clause-first c = plays_first

pub returns-clause-stopped : goal.returns-clause-stopped
returns-clause-stopped c = first_plays

pub returns-clause-finished : goal.returns-clause-finished
returns-clause-finished c = plays_finished
