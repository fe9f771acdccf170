use Rattle.dsql_engine_exchanged.proofs.Turns.{nothing_again}
use Rattle.dsql_engine_exchanged.proofs.laws.a_line_gives_nothing_again.Goals as goal

pub returns : goal.returns
returns c = nothing_again
