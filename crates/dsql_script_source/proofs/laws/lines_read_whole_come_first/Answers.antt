use Rattle.dsql_script_source.proofs.WholeLines.{first_of_read}
use Rattle.dsql_script_source.proofs.laws.lines_read_whole_come_first.Goals as goal

pub returns : goal.returns
returns c = λ race. first_of_read
