-- Which entries may use live handles and cursors.
use Rattle.std.specs.Prelude.{Bool, ◌&&◌, ◌||◌, not, ◌==◌, if◌then◌else◌}
use Rattle.dsql_tenure_journal.specs.declared.entry.Entry.{Entry}
use Rattle.dsql_tenure_journal.specs.Kinds.{◌⇒◌, is_call, is_house}
use Rattle.dsql_driver.specs.Kinds.{is_close_stmt, is_next}
use Rattle.dsql_tenure_asked.specs.declared.live.Handle.{Handle}
use Rattle.dsql_tenure_asked.specs.declared.live.Cursor.{Cursor}

-- Is true if the entry may use the handle.
abbrev pub serves_handle : Handle → Entry → Bool
serves_handle handle entry =
    (handle.tx == entry.tx)
    && (if is_call handle.owner then (is_call entry.owner || is_house entry.owner
    && is_close_stmt entry.call) else (handle.tenure == entry.tenure))

-- Is true if the entry may use the cursor.
abbrev pub serves_cursor : Cursor → Entry → Bool
serves_cursor cursor entry =
    (is_next entry.call ⇒ not cursor.over) && (cursor.tx == entry.tx) && (cursor.tenure == entry.tenure)
