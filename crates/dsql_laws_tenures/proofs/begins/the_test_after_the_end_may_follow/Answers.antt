use Rattle.dsql_laws_tenures.proofs.EndTests.{test_follows}
use Rattle.dsql_laws_tenures.proofs.begins.the_test_after_the_end_may_follow.Goals as goal

pub returns : goal.returns
returns c = test_follows
