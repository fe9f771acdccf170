use Rattle.std.proofs.Common.{refl}
use Rattle.dsql_run_outcome.proofs.Telling.{told_of_none, stopped_at_three, stopped_at_four, stopped_at_seven, stopped_at_ten}
use Rattle.dsql_run_outcome.proofs.laws.a_status_tells_what_stopped.Goals as goal

pub returns-clause-done : goal.returns-clause-done
returns-clause-done c = told_of_none

pub returns-clause-read : goal.returns-clause-read
returns-clause-read c = λ stopped risen w now told. stopped_at_three stopped risen w now 3 refl told

pub returns-clause-written : goal.returns-clause-written
returns-clause-written c = λ stopped risen w now told. stopped_at_four stopped risen w now 4 refl told

pub returns-clause-refused : goal.returns-clause-refused
returns-clause-refused c = λ stopped risen w now told. stopped_at_seven stopped risen w now 7 refl told

pub returns-clause-full : goal.returns-clause-full
returns-clause-full c = λ stopped risen w now told. stopped_at_ten stopped risen w now 10 refl told
