use Rattle.std.proofs.Common.{subst}
use Rattle.dsql_mem_store.specs.Entries.{Entries, AreAscending}
use Rattle.dsql_mem_store.proofs.EntryLemmas.{ascending-bytes}
use Rattle.dsql_mem_store.proofs.store.Store.vouch.Goals as goal

pub returns : goal.returns
returns c =
    subst (λ (entries : Entries). AreAscending entries) c.self.view_is
    (ascending-bytes c.self.inside.values.entries c.len-count.ensures.ordered)
