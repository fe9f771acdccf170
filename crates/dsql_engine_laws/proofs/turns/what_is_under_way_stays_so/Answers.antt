use Rattle.dsql_engine_laws.proofs.Flights.{flies_landed, flies_on}
use Rattle.dsql_engine_laws.proofs.turns.what_is_under_way_stays_so.Goals as goal

pub returns-clause-begun : goal.returns-clause-begun
returns-clause-begun c = λ m n d at flights. flies_on m d n at flights

pub returns-clause-landed : goal.returns-clause-landed
returns-clause-landed c = flies_landed
