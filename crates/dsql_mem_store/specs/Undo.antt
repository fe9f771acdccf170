-- What a transaction's rollback restores.
use Rattle.std.specs.Prelude.{List, [], ◌∷◌}
use Rattle.dsql_mem_store.specs.Entries.{Entries, with_state}
use Rattle.dsql_mem_store.specs.declared.note.Note.{Note}

-- Returns the entries once each noted key has its noted state again. The newest note comes first.
abbrev pub rolled_back : List Note → Entries → Entries
rolled_back [] entries = entries
rolled_back (note ∷ older) entries = rolled_back older (with_state note.key note.value entries)
