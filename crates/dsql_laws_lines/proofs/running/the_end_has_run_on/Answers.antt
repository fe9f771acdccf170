use Rattle.dsql_laws_lines.proofs.OnTheRun.{ends_done, ends_so_far}
use Rattle.dsql_laws_lines.proofs.running.the_end_has_run_on.Goals as goal

pub returns-clause-done : goal.returns-clause-done
returns-clause-done c = ends_done

pub returns-clause-so_far : goal.returns-clause-so_far
returns-clause-so_far c = ends_so_far
