use Rattle.dsql_run_outcome.proofs.Lines.{play_ends_none}
use Rattle.dsql_run_outcome.proofs.laws.no_line_that_stops_ends_the_script.Goals as goal

pub returns : goal.returns
returns c = play_ends_none
