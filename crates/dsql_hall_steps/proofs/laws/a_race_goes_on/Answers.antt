use Rattle.dsql_hall_steps.specs.Racing.{IsAnyStep}
use Rattle.dsql_hall_steps.proofs.Entering.{step_races, step_rests, wakes_races, wakes_rests}
use Rattle.dsql_hall_steps.proofs.laws.a_race_goes_on.Goals as goal

pub returns-clause-rests : goal.returns-clause-rests
returns-clause-rests c = λ lines before after t l. step_rests lines before after IsAnyStep t l

pub returns-clause-races : goal.returns-clause-races
returns-clause-races c = λ run lines before after r t. step_races run lines before after IsAnyStep r t

pub returns-clause-wakes : goal.returns-clause-wakes
returns-clause-wakes c = wakes_rests

pub returns-clause-woken : goal.returns-clause-woken
returns-clause-woken c = wakes_races
