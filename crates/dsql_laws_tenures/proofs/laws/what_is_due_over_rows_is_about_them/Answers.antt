use Rattle.dsql_laws_tenures.proofs.About.{handed_about}
use Rattle.dsql_laws_tenures.proofs.laws.what_is_due_over_rows_is_about_them.Goals as goal

pub returns : goal.returns
returns c = handed_about
