use Rattle.dsql_engine_hearing.proofs.Steps.{landed_apart}
use Rattle.dsql_engine_laws.proofs.Steps.{new_parked}
use Rattle.dsql_engine_laws.proofs.turns.who_goes_on_has_none_under_way.Goals as goal

pub returns-clause-entered : goal.returns-clause-entered
returns-clause-entered c = new_parked

pub returns-clause-landed : goal.returns-clause-landed
returns-clause-landed c = landed_apart
