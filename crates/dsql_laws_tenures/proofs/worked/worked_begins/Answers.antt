use Rattle.dsql_laws_tenures.proofs.BeginExamples.{bad_before_is, begins_are, left_open_is, no_test_is, numbered_is, tested_is}
use Rattle.dsql_laws_tenures.proofs.worked.worked_begins.Goals as goal

pub returns : goal.returns
returns c = record { begins = begins_are; left_open = left_open_is; bad_before = bad_before_is; numbered = numbered_is; tested = tested_is; no_test = no_test_is }
