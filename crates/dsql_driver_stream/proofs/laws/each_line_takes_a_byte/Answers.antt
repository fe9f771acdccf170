use Rattle.dsql_driver_stream.proofs.AllLines.{takes_a_byte}
use Rattle.dsql_driver_stream.proofs.laws.each_line_takes_a_byte.Goals as goal

pub returns : goal.returns
returns c = takes_a_byte
