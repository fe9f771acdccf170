use Rattle.dsql_cancel.proofs.Meaning.{first_cause_stays}
use Rattle.dsql_cancel.proofs.laws.the_first_cause_stays.Goals as goal

pub returns : goal.returns
returns c = first_cause_stays
