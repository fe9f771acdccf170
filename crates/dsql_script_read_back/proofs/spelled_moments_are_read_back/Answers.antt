use Rattle.dsql_script_read_back.proofs.ReadMoments.{moment_is_read_back}
use Rattle.dsql_script_read_back.proofs.spelled_moments_are_read_back.Goals as goal

pub returns : goal.returns
returns c = moment_is_read_back
