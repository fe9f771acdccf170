use Rattle.dsql_driver_stream.proofs.EndedLines.{first_of_ended}
use Rattle.dsql_driver_stream.proofs.laws.ended_lines_come_first.Goals as goal

pub returns-clause-first : goal.returns-clause-first
returns-clause-first c = first_of_ended
