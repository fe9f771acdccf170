use Rattle.dsql_scan.proofs.TableLaws.{nulls_take_nil}
use Rattle.dsql_scan.proofs.laws.null_destinations_take_nil.Goals as goal

pub returns : goal.returns
returns c = nulls_take_nil
