-- The rules for an entry beside the fit of its answer at its place.
use Rattle.std.specs.Prelude.{Bool, true, ◌&&◌, ◌==◌, List, length}
use Rattle.dsql_driver.specs.declared.answer.DriverAnswer.{DriverAnswer}
use Rattle.dsql_driver.specs.declared.answer.DriverAnswer.TheVariants.{Row}
use Rattle.dsql_tenure_journal.specs.declared.entry.Entry.{Entry}
use Rattle.dsql_tenure_journal.specs.Tenure.{keeps_tenure}
use Rattle.dsql_tenure_journal.specs.Transaction.{keeps_transaction}
use Rattle.dsql_tenure_journal.specs.HandlesAndCursors.{keeps_handles_and_cursors, is_heard, is_fitting, gives_new_handle, gives_new_cursor}
use Rattle.dsql_tenure_journal.specs.WholeJournal.{keeps_whole_journal}
use Rattle.dsql_tenure_asked.specs.declared.live.Cursor.{Cursor}

abbrev pub may_be_asked : List Entry → Entry → Bool
may_be_asked before entry =
    keeps_whole_journal before entry
    && keeps_tenure before entry
    && keeps_transaction before entry
    && keeps_handles_and_cursors before entry

-- Is true if the table of shapes has this answer for its call, and the answer isn't want of memory.
abbrev pub is_answer : Entry → Bool
is_answer entry = is_heard entry && is_fitting entry

-- Is true if a handle or cursor that the answer gives isn't live already.
abbrev pub gives_new : List Entry → Entry → Bool
gives_new before entry = gives_new_handle before entry && gives_new_cursor before entry

-- Is true if the cursor has as many columns as a Row has values.
abbrev pub is_as_wide : DriverAnswer → Cursor → Bool
is_as_wide (Row values) cursor = cursor.columns == length values
is_as_wide _ cursor = true
