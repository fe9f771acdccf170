use Rattle.dsql_mem_store.proofs.ListLaw.{lists_prefix}
use Rattle.dsql_mem_store.proofs.laws.a_list_is_whole.Goals as goal

pub returns : goal.returns
returns c = lists_prefix
