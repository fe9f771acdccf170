use Rattle.dsql_follows.specs.Moments.{met, at_end}
use Rattle.std.proofs.Common.{ap}
use Rattle.dsql_laws_steps.proofs.Permits.{taken_at_rest}
use Rattle.dsql_laws_steps.proofs.laws.a_permit_is_taken_at_rest.Goals as goal

pub returns-clause-permit : goal.returns-clause-permit
returns-clause-permit c = taken_at_rest

pub returns-clause-line : goal.returns-clause-line
returns-clause-line c = λ m line rest whole. (ap (met line) rest, whole)

pub returns-clause-end : goal.returns-clause-end
returns-clause-end c = λ m rest whole. (ap at_end rest, whole)
