-- Worked tenures that begin a transaction or test its connection at the end. For some premises of the laws
-- there is a tenure that breaks them.
use Rattle.std.specs.Prelude.{◌≡◌, ℕ, true, false, List, [], ◌∷◌}
use Rattle.dsql_history.specs.driver.declared.call.DriverCall.{DriverCall}
use Rattle.dsql_history.specs.driver.declared.call.DriverCall.TheVariants.{Commit, Reset, Valid}
use Rattle.dsql_history.specs.driver.declared.answer.DriverAnswer.{DriverAnswer}
use Rattle.dsql_history.specs.driver.declared.answer.DriverAnswer.TheVariants.{Bad, Done, Invalid}
use Rattle.dsql_history.specs.journal.declared.entry.Entry.{Entry}
use Rattle.dsql_history.specs.journal.declared.entry.Owner.TheVariants.{Tx}
use Rattle.dsql_history.specs.journal.HandlesAndCursors.{fits_at_its_place}
use Rattle.dsql_history.specs.journal.Journal.{may_follow, is_journal_prefix}
use Rattle.dsql_history.specs.journal.Readers.{is_empty, of_tenure, of_transaction}
use Rattle.dsql_history.specs.journal.Samples.{after, begin, by_call, exec_text, fails, gives_cursor, gives_handle, heard, in_tx, prepare, query_text}
use Rattle.dsql_history.specs.journal.Tenure.{is_whole_tenure}
use Rattle.dsql_history.specs.Readers.Lines.{has_cursor, has_handle}
use Rattle.dsql_history.specs.Rules.Line.{is_due}
use Rattle.dsql_history.specs.Rules.Sent.{begin_line}
use Rattle.dsql_laws_tenures.specs.Begins.{HasEnded, IsLentTo, IsOfBegin, IsTestOf}
use Rattle.dsql_laws_tenures.specs.Orderly.{OpensOnce, PreparesOnce}
use Rattle.dsql_laws_tenures.specs.Tenures.{made_by}
use Rattle.dsql_laws_tenures.specs.Worked.{able}

-- Returns an entry in the tenure of transaction 1 but outside of the transaction.
abbrev pub outside : DriverCall → DriverAnswer → Entry
outside call answer = heard 2 (Tx 1) 1 0 call answer

-- Holds if the entry is of the begin of transaction 1, to which the journal has a connection lent. The entry is
-- due, and may follow the journal.
pub record Sends (J : List Entry) (e : Entry) : Type 0 where
  pub lent : IsLentTo able true begin 1 1 2 J
  pub is : IsOfBegin 1 1 2 e
  pub due : is_due (begin_line able true begin (of_tenure 2 J)) e.call ≡ true
  pub fits : fits_at_its_place J e ≡ true
  pub follows : may_follow J e ≡ true

abbrev pub opened : List Entry
opened = after []

abbrev pub was_reset : List Entry
was_reset = after (outside Reset Done ∷ [])

abbrev pub was_refused : List Entry
was_refused = after (outside Reset Done ∷ outside begin fails ∷ [])

-- Holds if the begin resets the connection, sends its Begin, and tests the connection if that Begin failed.
pub record Begins : Type 0 where
  pub reset : Sends opened (outside Reset Done)
  pub begun : Sends was_reset (in_tx 1 begin Done)
  pub refused : Sends was_reset (outside begin fails)
  pub tested : Sends was_refused (outside Valid Done)
  pub failed : Sends was_refused (outside Valid Invalid)
  pub whole : is_whole_tenure 2 was_refused ≡ true

-- A journal in which an earlier tenure isn't whole, since its rows are open. No other tenure begins.
abbrev pub left_open : List Entry
left_open = after (by_call 1 2 query_text (gives_cursor 1) ∷ [])

pub record LeftOpen : Type 0 where
  pub beginning : is_journal_prefix left_open ≡ true
  pub not_whole : is_whole_tenure 2 left_open ≡ false
  pub no_reset : may_follow left_open (heard 3 (Tx 2) 2 0 Reset Done) ≡ false
  pub no_begin : may_follow left_open (heard 3 (Tx 2) 2 2 begin Done) ≡ false

-- A journal in which the connection went bad in an earlier tenure; the next one failed its test there. Such a
-- connection isn't lent again.
abbrev pub went_bad_before : List Entry
went_bad_before = after (by_call 1 2 exec_text Bad ∷ [])

abbrev pub failed_before : List Entry
failed_before = after (by_call 1 2 exec_text fails ∷ by_call 1 2 Valid Invalid ∷ [])

pub record BadBefore : Type 0 where
  pub beginning : is_journal_prefix went_bad_before ≡ true
  pub no_begin : may_follow went_bad_before (heard 3 (Tx 2) 2 2 begin Done) ≡ false
  pub tested : is_journal_prefix failed_before ≡ true
  pub no_begin_then : may_follow failed_before (heard 3 (Tx 2) 2 2 begin Done) ≡ false

-- A journal of a transaction that has ended. A transaction that has entries isn't begun again, and none has the
-- number 0. A Begin that is done has the number of its transaction.
abbrev pub ended : List Entry
ended = after (in_tx 1 begin Done ∷ in_tx 2 Commit Done ∷ [])

pub record Numbered : Type 0 where
  pub beginning : is_journal_prefix ended ≡ true
  pub some : is_empty (of_transaction 1 ended) ≡ false
  pub not_again : may_follow ended (heard 3 (Tx 1) 1 1 begin Done) ≡ false
  pub not_zero : may_follow opened (heard 2 (Tx 0) 0 0 begin Done) ≡ false
  pub with_number : may_follow opened (outside begin Done) ≡ false

-- Holds if the connection is tested after the Commit.
pub record TestedAtEnd : Type 0 where
  pub has_ended : HasEnded 1 1 2 ended
  pub test : IsTestOf 1 1 2 (outside Valid Done)
  pub opens : OpensOnce 2 ended
  pub prepares : PreparesOnce 2 ended
  pub no_cursor : (n rows : ℕ) → has_cursor (made_by n 2 ended) rows ≡ false
  pub no_handle : (n handle : ℕ) → has_handle (made_by n 2 ended) handle ≡ false
  pub fits : fits_at_its_place ended (outside Valid Done) ≡ true
  pub follows : may_follow ended (outside Valid Done) ≡ true
  pub follows_failing : may_follow ended (outside Valid Invalid) ≡ true

-- A journal in which the Commit was answered Bad; in the next one a handle is left open. In neither is the
-- connection tested.
abbrev pub ended_badly : List Entry
ended_badly = after (in_tx 1 begin Done ∷ in_tx 2 Commit Bad ∷ [])

abbrev pub handle_left : List Entry
handle_left = after (in_tx 1 begin Done ∷ in_tx 2 prepare (gives_handle 1) ∷ in_tx 3 Commit Done ∷ [])

pub record NoTest : Type 0 where
  pub bad : is_journal_prefix ended_badly ≡ true
  pub not_when_bad : may_follow ended_badly (outside Valid Done) ≡ false
  pub left : is_journal_prefix handle_left ≡ true
  pub not_when_left : may_follow handle_left (outside Valid Done) ≡ false
