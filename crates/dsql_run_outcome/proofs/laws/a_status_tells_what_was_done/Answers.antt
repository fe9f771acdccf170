use Rattle.dsql_run_outcome.proofs.Telling.{known_of_run, read_fault_at_three, whole_at_zero, write_fault_at_four}
use Rattle.dsql_run_outcome.proofs.laws.a_status_tells_what_was_done.Goals as goal

pub returns-clause-whole : goal.returns-clause-whole
returns-clause-whole c = whole_at_zero

pub returns-clause-known : goal.returns-clause-known
returns-clause-known c = known_of_run

pub returns-clause-read_fault : goal.returns-clause-read_fault
returns-clause-read_fault c = read_fault_at_three

pub returns-clause-write_fault : goal.returns-clause-write_fault
returns-clause-write_fault c = write_fault_at_four
