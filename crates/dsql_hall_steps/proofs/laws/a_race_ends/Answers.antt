use Rattle.dsql_hall_steps.proofs.Ending.{end_races, stop_races}
use Rattle.dsql_hall_steps.proofs.laws.a_race_ends.Goals as goal

pub returns-clause-carried : goal.returns-clause-carried
returns-clause-carried c = end_races

pub returns-clause-stopped : goal.returns-clause-stopped
returns-clause-stopped c = stop_races
