use Rattle.dsql_laws_calls.proofs.Coming.{stays_with_its_call}
use Rattle.dsql_laws_calls.proofs.Unspoilt.{none_bad, none_invalid}
use Rattle.dsql_laws_calls.proofs.sendings.what_is_under_way_keeps_its_connection.Goals as goal

pub returns-clause-kept : goal.returns-clause-kept
returns-clause-kept c = stays_with_its_call

pub returns-clause-good : goal.returns-clause-good
returns-clause-good c = none_bad

pub returns-clause-valid : goal.returns-clause-valid
returns-clause-valid c = none_invalid
