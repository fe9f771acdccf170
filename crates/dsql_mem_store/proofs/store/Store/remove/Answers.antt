use Rattle.std.proofs.Common.{ℕ, List, map, ap, ◌∙◌}
use Rattle.std.specs.Cmp.Lexicographic.{slice_cmp}
use Rattle.std.specs.Ordering.{is_eq, nat_cmp}
use Rattle.dsql_mem_store.specs.Entries.{without_key}
use Rattle.dsql_mem_store.proofs.EntryLemmas.{entry_of, map-remove_entry}
use Rattle.dsql_mem_store.proofs.store.Store.remove.Goals as goal

pub returns : goal.returns
returns c =
    ap (λ entries. map entry_of entries) c.remove.ensures.entries
    ∙ map-remove_entry (λ (k : List ℕ). is_eq (slice_cmp nat_cmp c.args.key.now k)) c.self.inside.values.entries
    ∙ ap (without_key c.args.key.now) c.self.view_is
