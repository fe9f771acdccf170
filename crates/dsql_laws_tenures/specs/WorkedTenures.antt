-- Worked journals: a call's tenure after a transaction that has ended. For what the laws ask, there are
-- journals that don't have it.
use Rattle.std.specs.Prelude.{◌≡◌, true, false, List, [], ◌∷◌, ◌++◌, None, codes}
use Rattle.dsql_history.specs.course.declared.course.Wish.TheVariants.{Nothing}
use Rattle.dsql_history.specs.driver.declared.answer.DriverAnswer.TheVariants.{Done, Invalid}
use Rattle.dsql_history.specs.driver.declared.call.DriverCall.TheVariants.{Commit, Reset, Valid}
use Rattle.dsql_history.specs.driver.declared.caps.Caps.{Caps}
use Rattle.dsql_history.specs.journal.declared.entry.Entry.{Entry}
use Rattle.dsql_history.specs.journal.declared.entry.Owner.TheVariants.{Tx}
use Rattle.dsql_history.specs.journal.Journal.{is_journal_prefix, may_follow}
use Rattle.dsql_history.specs.journal.Readers.{handles, is_empty}
use Rattle.dsql_history.specs.journal.Samples.{after, begin, by_call, exec_text, fails, gives_handle, heard, in_tx, prepare, result}
use Rattle.dsql_history.specs.journal.Tenure.{is_whole_tenure}
use Rattle.dsql_history.specs.works.declared.work.Aim.TheVariants.{Execute}
use Rattle.dsql_history.specs.works.Line.{Asked, line_after}
use Rattle.dsql_laws_tenures.specs.Calls.{IsLentToCall, IsOfCall, WasDue}
use Rattle.dsql_laws_tenures.specs.Connections.{IsQuiet}

-- A driver that can reset and test, among other things. Call 3 asks `asked`, in tenure 3.
abbrev pub able : Caps
able =
    record {
      fast_exec = true;
      fast_query = true;
      begin_options = true;
      named = true;
      pinger = true;
      resetter = true;
      validator = true;
    }

abbrev pub asked : Asked
asked = record { text = codes "SET a 1"; params = []; aim = Execute }

abbrev pub committed : List Entry
committed = after (in_tx 1 begin Done ∷ in_tx 2 Commit Done ∷ [])

abbrev pub was_reset : List Entry
was_reset = by_call 3 3 Reset Done ∷ []

abbrev pub was_tested : List Entry
was_tested = by_call 3 3 Valid Done ∷ by_call 3 3 exec_text result ∷ was_reset

-- Holds if the connection is quiet after its Commit. A call resets it, runs its text and tests it in a tenure
-- of its own, which is whole then.
pub record AfterCommit : Type 0 where
  pub quiet : IsQuiet 1 committed
  pub lent : IsLentToCall able true asked 1 3 3 was_reset committed
  pub own : IsOfCall 1 3 3 (by_call 3 3 exec_text result)
  pub due : WasDue able true asked (by_call 3 3 exec_text result) was_reset
  pub follows : may_follow (was_reset ++ committed) (by_call 3 3 exec_text result) ≡ true
  pub follows_failing : may_follow (was_reset ++ committed) (by_call 3 3 exec_text fails) ≡ true
  pub beginning : is_journal_prefix (was_tested ++ committed) ≡ true
  pub nothing_more : line_after able true asked Nothing was_tested ≡ None
  pub whole : is_whole_tenure 3 (was_tested ++ committed) ≡ true

-- A journal whose transaction hasn't ended; in the next one it has left a handle open. The tenure isn't whole,
-- and no call's tenure begins.
abbrev pub not_ended : List Entry
not_ended = after (in_tx 1 begin Done ∷ [])

abbrev pub handle_left : List Entry
handle_left = after (in_tx 1 begin Done ∷ in_tx 2 prepare (gives_handle 1) ∷ in_tx 3 Commit Done ∷ [])

pub record NotWhole : Type 0 where
  pub beginning : is_journal_prefix not_ended ≡ true
  pub not_whole : is_whole_tenure 2 not_ended ≡ false
  pub no_call : may_follow not_ended (by_call 3 3 exec_text result) ≡ false
  pub left : is_journal_prefix handle_left ≡ true
  pub left_open : is_whole_tenure 2 handle_left ≡ false
  pub no_call_then : may_follow handle_left (by_call 3 3 exec_text result) ≡ false

-- A journal whose connection failed its test after the Commit. No call's tenure begins.
abbrev pub failed : List Entry
failed = heard 2 (Tx 1) 2 0 Valid Invalid ∷ committed

pub record NotTested : Type 0 where
  pub beginning : is_journal_prefix failed ≡ true
  pub whole : is_whole_tenure 2 failed ≡ true
  pub no_call : may_follow failed (by_call 3 3 exec_text result) ≡ false

-- A journal in which a call's tenure is whole with its handle open. The connection isn't quiet.
abbrev pub kept_handle : List Entry
kept_handle = after (by_call 1 2 prepare (gives_handle 1) ∷ [])

pub record NotQuiet : Type 0 where
  pub beginning : is_journal_prefix kept_handle ≡ true
  pub whole : is_whole_tenure 2 kept_handle ≡ true
  pub some : is_empty (handles kept_handle) ≡ false
