use Rattle.dsql_mem_store.proofs.DelLaw.{deletes_one_key}
use Rattle.dsql_mem_store.proofs.SetLaw.{sets_one_key}
use Rattle.dsql_mem_store.proofs.laws.a_write_touches_one_key.Goals as goal

pub returns : goal.returns
returns c = record { set = sets_one_key; deleted = deletes_one_key }
