use Rattle.dsql_laws_lines.proofs.OnTheRun.{runs_from_nothing, runs_in_steps, runs_from_entry, runs_from_control, runs_further}
use Rattle.dsql_laws_lines.proofs.running.a_line_runs_on.Goals as goal

pub returns-clause-nothing : goal.returns-clause-nothing
returns-clause-nothing c = runs_from_nothing

pub returns-clause-in_steps : goal.returns-clause-in_steps
returns-clause-in_steps c = runs_in_steps

pub returns-clause-enters : goal.returns-clause-enters
returns-clause-enters c = runs_from_entry

pub returns-clause-controls : goal.returns-clause-controls
returns-clause-controls c = runs_from_control

pub returns-clause-further : goal.returns-clause-further
returns-clause-further c = runs_further
