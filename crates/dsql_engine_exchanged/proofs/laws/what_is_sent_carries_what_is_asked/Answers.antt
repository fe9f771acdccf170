use Rattle.dsql_engine_exchanged.proofs.Carried.{inner_carries, begin_carries, end_carries}
use Rattle.dsql_engine_exchanged.proofs.laws.what_is_sent_carries_what_is_asked.Goals as goal

pub returns : goal.returns
returns c = record { inside = inner_carries; begin = begin_carries; end = end_carries }
