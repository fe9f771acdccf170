use Rattle.dsql_hall_steps.proofs.Beginning.{begun_rests, first_races, keeping_rests, told_races}
use Rattle.dsql_hall_steps.proofs.Entering.{rests_too}
use Rattle.dsql_hall_steps.proofs.laws.a_race_begins.Goals as goal

pub returns-clause-first : goal.returns-clause-first
returns-clause-first c = first_races

pub returns-clause-told : goal.returns-clause-told
returns-clause-told c = told_races

pub returns-clause-rests : goal.returns-clause-rests
returns-clause-rests c = rests_too

pub returns-clause-keeps : goal.returns-clause-keeps
returns-clause-keeps c = keeping_rests

pub returns-clause-kept : goal.returns-clause-kept
returns-clause-kept c = begun_rests
