use Rattle.dsql_laws_tenures.proofs.Alone.{each_whole, last_whole}
use Rattle.dsql_laws_tenures.proofs.tenures.each_tenure_is_whole.Goals as goal

pub returns : goal.returns
returns c = record { each = each_whole; last = last_whole }
