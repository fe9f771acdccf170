use Rattle.dsql_laws_tenures.proofs.Unbegun.{last_whole, whole_unbegun}
use Rattle.dsql_laws_tenures.proofs.begins.a_refused_begin_leaves_a_whole_tenure.Goals as goal

pub returns : goal.returns
returns c = record { its_own = whole_unbegun; last = last_whole }
