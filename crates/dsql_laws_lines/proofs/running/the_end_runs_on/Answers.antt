use Rattle.dsql_laws_lines.proofs.OnTheRun.{ends_from_nothing, ends_further, ends_ending}
use Rattle.dsql_laws_lines.proofs.running.the_end_runs_on.Goals as goal

pub returns-clause-nothing : goal.returns-clause-nothing
returns-clause-nothing c = ends_from_nothing

pub returns-clause-further : goal.returns-clause-further
returns-clause-further c = ends_further

pub returns-clause-ends : goal.returns-clause-ends
returns-clause-ends c = ends_ending
