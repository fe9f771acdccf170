-- A connection's journal, newest first: what may come next, its beginnings, and when it is whole.
use Rattle.std.specs.Prelude.{Bool, true, false, ◌&&◌, ◌||◌, IsTrue, List, [], ◌∷◌}
use Rattle.dsql_tenure_journal.specs.declared.entry.Entry.{Entry}
use Rattle.dsql_driver.specs.Fits.{is_failure}
use Rattle.dsql_driver.specs.Kinds.{is_connect, is_shut}
use Rattle.dsql_tenure_journal.specs.Readers.{last_tenure}
use Rattle.dsql_tenure_journal.specs.Tenure.{is_whole_tenure, keeps_tenure}
use Rattle.dsql_tenure_journal.specs.Transaction.{keeps_transaction}
use Rattle.dsql_tenure_journal.specs.HandlesAndCursors.{keeps_handles_and_cursors, fits_at_its_place}
use Rattle.dsql_tenure_journal.specs.WholeJournal.{keeps_whole_journal}

-- Is true if the entry may come next, provided that what stands before is a beginning of a whole journal.
abbrev pub may_follow : List Entry → Entry → Bool
may_follow before e =
    keeps_whole_journal before e
    && keeps_tenure before e
    && keeps_transaction before e
    && keeps_handles_and_cursors before e
    && fits_at_its_place before e

-- Is true if the list is a beginning of a whole journal.
abbrev pub is_journal_prefix : List Entry → Bool
is_journal_prefix [] = true
is_journal_prefix (e ∷ before) = may_follow before e && is_journal_prefix before

-- Is true if nothing is left to be heard: the Connect was answered Bad or Fail, or Shut was heard.
abbrev pub is_finished : List Entry → Bool
is_finished [] = false
is_finished (e ∷ before) = is_shut e.call || is_connect e.call && is_failure e.answer

-- Is true if the journal is whole.
abbrev pub is_whole : List Entry → Bool
is_whole journal = is_journal_prefix journal && is_finished journal

-- Is true if the tenure under way is whole, as a return or a close of the connection requires.
abbrev pub is_last_tenure_whole : List Entry → Bool
is_last_tenure_whole journal = is_whole_tenure (last_tenure journal) journal

-- Holds if the list is a beginning of a whole journal.
abbrev pub IsJournalPrefix : List Entry → Type 0
IsJournalPrefix journal = IsTrue (is_journal_prefix journal)

abbrev pub IsWholeTenure : List Entry → Type 0
IsWholeTenure journal = IsTrue (is_last_tenure_whole journal)

abbrev pub IsWhole : List Entry → Type 0
IsWhole journal = IsTrue (is_whole journal)
