use Rattle.dsql_cases_histories.proofs.Openings.{opens_below, opens_no_more, most_of}
use Rattle.dsql_cases_histories.proofs.limit.openings_up_to_the_limit_may_start.Goals as goal

pub returns-clause-most : goal.returns-clause-most
returns-clause-most c = most_of

pub returns-clause-full : goal.returns-clause-full
returns-clause-full c = opens_no_more

pub returns-clause-below : goal.returns-clause-below
returns-clause-below c = opens_below
