use Rattle.dsql_run_outcome.proofs.Asking.{read_played, written_played}
use Rattle.dsql_run_outcome.proofs.Ending.{shown_before_end}
use Rattle.dsql_run_outcome.proofs.Finished.{finish_none}
use Rattle.dsql_run_outcome.proofs.laws.what_was_written_and_read.Goals as goal

pub returns-clause-cut : goal.returns-clause-cut
returns-clause-cut c = finish_none

pub returns-clause-shown : goal.returns-clause-shown
returns-clause-shown c = shown_before_end

pub returns-clause-read : goal.returns-clause-read
returns-clause-read c = read_played

pub returns-clause-written : goal.returns-clause-written
returns-clause-written c = written_played
