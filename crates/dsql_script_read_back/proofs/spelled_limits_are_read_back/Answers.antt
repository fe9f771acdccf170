use Rattle.dsql_script_read_back.proofs.ReadLimits.{limit_is_read_back}
use Rattle.dsql_script_read_back.proofs.spelled_limits_are_read_back.Goals as goal

pub returns : goal.returns
returns c = limit_is_read_back
