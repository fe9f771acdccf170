use Rattle.std.proofs.Common.{◌∙◌}
use Rattle.dsql_mem_store.proofs.EntryLemmas.{map-clone}
use Rattle.dsql_mem_store.proofs.store.Store.copy.Goals as goal

pub returns : goal.returns
returns c = map-clone c.self.inside.values.entries c.in_ok-values.values.entries c.in_ok-values.ensures.cases ∙ c.self.view_is
