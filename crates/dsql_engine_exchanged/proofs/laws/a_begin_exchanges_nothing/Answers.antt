use Rattle.dsql_engine_exchanged.proofs.Begun.{nothing_exchanged}
use Rattle.dsql_engine_exchanged.proofs.laws.a_begin_exchanges_nothing.Goals as goal

pub returns : goal.returns
returns c = nothing_exchanged
