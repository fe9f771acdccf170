use Rattle.dsql_script_read_back.proofs.ReadCaps.{caps_are_read_back}
use Rattle.dsql_script_read_back.proofs.spelled_capabilities_are_read_back.Goals as goal

pub returns : goal.returns
returns c = caps_are_read_back
