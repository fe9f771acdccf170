use Rattle.dsql_laws_others.proofs.Rested.{rests_well}
use Rattle.dsql_laws_others.proofs.leaving.who_rests_has_a_good_connection.Goals as goal

pub returns : goal.returns
returns c = rests_well
