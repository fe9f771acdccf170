use Rattle.std.proofs.Common.{◌≡◌, ◌++◌, map}
use Rattle.dsql_mem_store.specs.Entries.{listed}
use Rattle.dsql_mem_store.proofs.EntryLemmas.{entry_of}
use Rattle.dsql_mem_store.proofs.Prefix.{AreAhead}
use Rattle.dsql_mem_store.proofs.store.Store.list.Given as goal

-- The entries listed so far and those still to be listed make up the whole list, and those that are left are ahead.
abbrev pub invariant-loop-key : goal.invariant-loop-key
invariant-loop-key l =
    (l.entries.items ++ listed l.prefix (map entry_of l.key-iterator) ≡ listed l.prefix l.self)
    × AreAhead l.prefix (map entry_of l.key-iterator)
