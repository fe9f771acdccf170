use Rattle.dsql_laws_lines.proofs.OnTheRun.{runs_done, runs_so_far, nothing_so_far}
use Rattle.dsql_laws_lines.proofs.running.a_line_has_run_on.Goals as goal

pub returns-clause-done : goal.returns-clause-done
returns-clause-done c = runs_done

pub returns-clause-so_far : goal.returns-clause-so_far
returns-clause-so_far c = runs_so_far

pub returns-clause-nothing : goal.returns-clause-nothing
returns-clause-nothing c = nothing_so_far
