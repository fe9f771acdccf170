-- The transactions that are open: begun, and without a Commit or Rollback.
use Rattle.std.specs.Prelude.{ℕ, Bool, ◌&&◌, ◌||◌, not, ◌==◌, List, [], ◌∷◌, if◌then◌else◌}
use Rattle.std.specs.List.{filter}
use Rattle.dsql_tenure_journal.specs.declared.entry.Entry.{Entry}
use Rattle.dsql_driver.specs.Kinds.{is_begin, is_ending, is_close_stmt, is_work}
use Rattle.dsql_tenure_journal.specs.Readers.{has, begun, begins}
use Rattle.dsql_tenure_journal.specs.Transaction.{ends_without_cursors}
use Rattle.dsql_driver.specs.Fits.{is_done}

-- Returns the open transactions after an entry.
abbrev pub open_after : Entry → List ℕ → List ℕ
open_after entry numbers =
    if begins entry then (entry.tx ∷ numbers) else if is_ending entry.call then filter
    (λ m. not (m == entry.tx)) numbers else numbers

-- Returns the open transactions, newest first. A transaction is open if its Begin stands before, and no Commit or
-- Rollback of it after that. The answer to the Commit or Rollback doesn't matter.
abbrev pub open_in : List Entry → List ℕ
open_in [] = []
open_in (entry ∷ before) = open_after entry (open_in before)

-- Is true if the entry begins a transaction whose number is new.
abbrev pub begins_anew : List Entry → Entry → Bool
begins_anew before entry = is_done entry.answer && (entry.call_no == entry.tx) && not (has entry.tx (begun before))

-- Is true if the entry's transaction is open, and the entry works in it or ends it.
abbrev pub goes_on_open : List Entry → Entry → Bool
goes_on_open before entry =
    (is_work entry.call || is_ending entry.call) && has entry.tx (open_in before) && ends_without_cursors before entry

-- Is true if an entry with that transaction number may come.
abbrev pub keeps_number : List Entry → Entry → Bool
keeps_number before entry =
    if is_begin entry.call then begins_anew before entry else (is_close_stmt entry.call || goes_on_open before entry)
