use Rattle.dsql_script_source.proofs.Coming.{first_of_read_so_far}
use Rattle.dsql_script_source.proofs.laws.lines_read_so_far_come_first.Goals as goal

pub returns : goal.returns
returns c = λ race. first_of_read_so_far
