use Rattle.dsql_laws_calls.proofs.replies.what_has_not_come_yet.Goals as goal
use Rattle.dsql_laws_calls.proofs.Untried.{wants_has_try}
use Rattle.dsql_laws_calls.proofs.Told.{wants_undecided}
use Rattle.dsql_laws_calls.proofs.Enders.{unended}

pub returns-clause-tries : goal.returns-clause-tries
returns-clause-tries c = wants_has_try

pub returns-clause-undecided : goal.returns-clause-undecided
returns-clause-undecided c = wants_undecided

pub returns-clause-ender : goal.returns-clause-ender
returns-clause-ender c = unended
