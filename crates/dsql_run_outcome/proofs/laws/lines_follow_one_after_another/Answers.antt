use Rattle.dsql_run_outcome.proofs.Following.{all_stops_short, end_stops_short, line_follows, line_stops_planning, line_stops_short, stops_at_rest}
use Rattle.dsql_run_outcome.proofs.laws.lines_follow_one_after_another.Goals as goal

pub returns-clause-line : goal.returns-clause-line
returns-clause-line c = line_follows

pub returns-clause-stops : goal.returns-clause-stops
returns-clause-stops c = line_stops_short

pub returns-clause-rests : goal.returns-clause-rests
returns-clause-rests c = stops_at_rest

pub returns-clause-ends : goal.returns-clause-ends
returns-clause-ends c = end_stops_short

pub returns-clause-all : goal.returns-clause-all
returns-clause-all c = all_stops_short

pub returns-clause-plans : goal.returns-clause-plans
returns-clause-plans c = line_stops_planning
