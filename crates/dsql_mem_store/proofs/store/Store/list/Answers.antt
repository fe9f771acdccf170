-- The range from the prefix on has the entries that are listed, and they come first in it.
use Rattle.std.proofs.Common.{rules, ◌≡◌, nat_eq, [], ◌∷◌, ◌++◌, map, string_bytes, append-nil, ap, sym, subst, ◌∙◌}
use Rattle.std.specs.List.{starts_with}
use Rattle.dsql_mem_store.specs.Entries.{Entries, listed}
use Rattle.dsql_mem_store.proofs.EntryLemmas.{ascending-bytes, entry_of}
use Rattle.dsql_mem_store.proofs.Prefix.{AreAhead, ahead_rest, none_listed, one_listed, range_lists, range_ahead}
use Rattle.dsql_mem_store.proofs.store.Store.list.Goals as goal
use Rattle.dsql_mem_store.proofs.store.Store.list.Goals.{in-None, in-Some+else-begins_with}

pub loop-key-init : goal.loop-key-init
loop-key-init c =
    let p = c.args.prefix.now in
    let from = c.in_ok-from.from in
    let entries = c.self.inside.values.entries in
    let range = c.range-key-items.result in
    let found = c.range-key-items.ensures.between tt in
    let bytes : string_bytes from ≡ p = c.in_ok-from.ensures.ok in
    let left = c.into_iter-key-iterator.ensures.into_iter_gives in (
      ap (λ items. items ++ listed p (map entry_of c.into_iter-key-iterator.result)) c.new-entries.ensures.items
          ∙ ap (λ es. listed p (map entry_of es)) left
          ∙ ap (λ q. listed q (map entry_of range)) (sym bytes)
          ∙ range_lists from entries range found
          ∙ ap (λ q. listed q (map entry_of entries)) bytes
          ∙ ap (listed p) c.self.view_is,
      subst (λ es. AreAhead p (map entry_of es)) (sym left)
          (subst (λ q. AreAhead q (map entry_of range)) bytes
          (range_ahead from entries range found (ascending-bytes entries c.range-key-items.ensures.ordered))),
    )

pub loop-key-preserved : goal.loop-key-preserved
loop-key-preserved c =
    let p = c.args.prefix.now in
    let left = ap (map entry_of) c.in-Some.ensures.steps in
    let text = ap (λ text. starts_with nat_eq text p) (sym c.as_str.ensures.value) in
    let pushed : c.push.new.self.items ≡ c.loop-key.entries.items ++ (string_bytes c.in-Some.key.now, c.in-Some.value.now) ∷ [] = search rules in (
      ap (λ items. items ++ listed p (map entry_of c.next.new.self)) pushed
          ∙ one_listed p _ _ c.loop-key.entries.items _ (text ∙ sym c.begins_with.ensures ∙ c.if-begins_with.true)
          (ap (λ es. c.loop-key.entries.items ++ listed p es) (sym left) ∙ c.loop-key.invariant.0),
      ahead_rest p _ _ (subst (λ (es : Entries). AreAhead p es) left c.loop-key.invariant.1),
    )

pub returns : goal.returns
returns c =
    let p = c.args.prefix.now in
    let ended : listed p (map entry_of c.loop-key.key-iterator) ≡ [] → c.loop-key.entries.items ≡ listed p c.args.self.now
    = λ none. sym (append-nil _) ∙ ap (λ rest. c.loop-key.entries.items ++ rest) (sym none) ∙ c.loop-key.invariant.0 in
    c.new.ensures ∙ ended (elim c.match-next.branch [ in-None w ↦ ap (λ es. listed p (map entry_of es)) w.in-None.ensures.steps.0 | in-Some+else-begins_with w ↦ let left = ap (map entry_of) w.in-Some.ensures.steps in let key = ap (λ text. starts_with nat_eq text p) (sym w.as_str.ensures.value) in ap (listed p) left ∙ none_listed p _ _ (subst (λ (es : Entries). AreAhead p es) left c.loop-key.invariant.1) (key ∙ sym w.begins_with.ensures ∙ w.if-begins_with.false) ])
