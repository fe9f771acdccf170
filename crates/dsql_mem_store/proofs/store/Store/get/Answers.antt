use Rattle.std.proofs.Common.{ℕ, List, ap, ◌∙◌}
use Rattle.std.specs.Cmp.Lexicographic.{slice_cmp}
use Rattle.std.specs.Ordering.{is_eq, nat_cmp}
use Rattle.dsql_mem_store.specs.Entries.{value_at}
use Rattle.dsql_mem_store.proofs.EntryLemmas.{lookup-entry_of}
use Rattle.dsql_mem_store.proofs.store.Store.get.Goals as goal

pub returns : goal.returns
returns c =
    c.get.ensures.value
    ∙ lookup-entry_of (λ (k : List ℕ). is_eq (slice_cmp nat_cmp c.args.key.now k)) c.self.inside.values.entries
    ∙ ap (value_at c.args.key.now) c.self.view_is
