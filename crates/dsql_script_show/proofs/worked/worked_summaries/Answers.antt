use Rattle.std.proofs.Common.{refl}
use Rattle.std.specs.Fmt.{digits}
use Rattle.dsql_script_show.proofs.worked.worked_summaries.Goals as goal

pub returns : goal.returns
unfolding digits
returns c = record { counted = refl; empty = refl }
