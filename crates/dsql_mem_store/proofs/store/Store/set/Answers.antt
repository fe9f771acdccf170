use Rattle.std.proofs.Common.{◌≡◌, map, ap, ◌∙◌, string_bytes, rules}
use Rattle.dsql_mem_store.specs.Entries.{with_value}
use Rattle.dsql_mem_store.proofs.EntryLemmas.{entry_of, map-insert_entry}
use Rattle.dsql_mem_store.proofs.store.Store.set.Goals as goal

pub returns-clause-ok : goal.returns-clause-ok
returns-clause-ok c =
    let key : string_bytes c.in_ok-key.key ≡ c.args.key.now = search rules in
    ap (λ entries. map entry_of entries) c.in_ok-insert.ensures.entries
    ∙ map-insert_entry c.in_ok-key.key c.args.value c.self.inside.values.entries
    ∙ ap (λ key. with_value key c.args.value (map entry_of c.self.inside.values.entries)) key
    ∙ ap (with_value c.args.key.now c.args.value) c.self.view_is
