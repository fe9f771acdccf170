use Rattle.dsql_driver_stream.proofs.AllLines.{all_lines-first}
use Rattle.dsql_driver_stream.proofs.laws.lines_begin_with_the_first.Goals as goal

pub returns-clause-first : goal.returns-clause-first
returns-clause-first c = all_lines-first
