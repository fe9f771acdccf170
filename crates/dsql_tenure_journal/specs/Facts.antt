-- The rules as facts: a record for each set of rules, with a field for each rule. Whoever adds an entry to a
-- journal owes them, and whoever reads it has them.
use Rattle.std.specs.Prelude.{◌≢◌, ℕ, ◌<◌, IsTrue, IsFalse, List}
use Rattle.dsql_tenure_journal.specs.declared.entry.Entry.{Entry}
use Rattle.dsql_tenure_journal.specs.declared.entry.Owner.{Owner}
use Rattle.dsql_tenure_journal.specs.declared.entry.Owner.TheVariants.{Call, Tx, Pin, House}
use Rattle.dsql_tenure_journal.specs.Tenure as tenure
use Rattle.dsql_tenure_journal.specs.Transaction as transaction
use Rattle.dsql_tenure_journal.specs.HandlesAndCursors as handles
use Rattle.dsql_tenure_journal.specs.WholeJournal as whole
use Rattle.dsql_tenure_journal.specs.Readers.{is_empty, last_tenure, was_refused, was_shut}
use Rattle.dsql_tenure_journal.specs.Journal.{IsJournalPrefix, IsWholeTenure}

-- Holds if the entry keeps the rules for the body of a Call tenure.
pub record KeepsCallBody (before : List Entry) (e : Entry) : Type 0 where
  pub kind : IsTrue (tenure.is_call_body e)
  pub ping_alone : IsTrue (tenure.pings_alone before e)
  pub order : IsTrue (tenure.goes_in_order before e)
  pub own_cursor : IsTrue (tenure.uses_own_cursor before e)
  pub own_close : IsTrue (tenure.closes_own_handle before e)
  pub skip : IsTrue (tenure.follows_skip before e)
  pub own_run : IsTrue (tenure.runs_own_handle before e)
  pub not_after_bad : IsTrue (tenure.follows_no_bad before e)
  pub rows_first : IsTrue (tenure.closes_rows_first before e)
  pub no_transaction : IsTrue (tenure.is_outside_transactions e)

-- Holds if the entry keeps the rules for the body of a tenure of that owner.
abbrev pub KeepsBody : Owner → List Entry → Entry → Type 0
KeepsBody (Call n) before e = KeepsCallBody before e
KeepsBody (Tx n) before e = IsTrue (tenure.is_tx_body n before e)
KeepsBody (Pin n) before e = IsTrue (tenure.is_pin_body e)
KeepsBody House before e = Unit {0}

-- Holds if the entry keeps the shape of a tenure.
pub record KeepsTenure (before : List Entry) (e : Entry) : Type 0 where
  pub one_owner : IsTrue (tenure.has_one_owner before e)
  pub house_alone : IsTrue (tenure.is_alone_of_house before e)
  pub house_call : IsTrue (tenure.is_house_call e)
  pub house_numbers : IsTrue (tenure.has_house_numbers e)
  pub reset_first : IsTrue (tenure.resets_first before e)
  pub not_after_valid : IsTrue (tenure.has_no_valid_before before e)
  pub whole_at_valid : IsTrue (tenure.is_whole_at_valid before e)
  pub tests : IsTrue (tenure.tests_without_transaction e)
  pub not_after_bad_reset : IsTrue (tenure.follows_no_bad_reset before e)
  pub in_body : IsTrue (tenure.is_body e) → KeepsBody e.owner before e

-- Holds if the entry keeps the rules of a transaction.
pub record KeepsTransaction (before : List Entry) (e : Entry) : Type 0 where
  pub one_tenure : IsTrue (transaction.stands_in_one_tenure before e)
  pub owner : IsTrue (transaction.has_owner_of_transaction e)
  pub begin_first : IsTrue (transaction.starts_with_begin before e)
  pub begin_once : IsTrue (transaction.begins_once before e)
  pub kind : IsTrue (transaction.is_transaction_call before e)
  pub end_once : IsTrue (transaction.ends_once before e)
  pub close_after_end : IsTrue (transaction.closes_after_end before e)
  pub own_close : IsTrue (transaction.closes_what_it_prepared before e)
  pub no_cursors : IsTrue (transaction.ends_without_cursors before e)

-- Holds if the entry keeps the rules for handles and cursors.
pub record KeepsHandlesAndCursors (before : List Entry) (e : Entry) : Type 0 where
  pub live_handle : IsTrue (handles.has_live_handle before e)
  pub live_cursor : IsTrue (handles.has_live_cursor before e)
  pub not_over : IsTrue (handles.fetches_before_the_end before e)
  pub transaction_of_handle : IsTrue (handles.has_transaction_of_handle before e)
  pub transaction_of_cursor : IsTrue (handles.has_transaction_of_cursor before e)
  pub cursor_tenure : IsTrue (handles.uses_cursor_in_its_tenure before e)
  pub handle_tenure : IsTrue (handles.uses_handle_in_its_tenure before e)
  pub call_handle : IsTrue (handles.uses_handle_in_call_tenures before e)

-- Holds if the entry's answer fits at its place.
pub record FitsAtItsPlace (before : List Entry) (e : Entry) : Type 0 where
  pub heard : IsTrue (handles.is_heard e)
  pub fitting : IsTrue (handles.is_fitting e)
  pub new_handle : IsTrue (handles.gives_new_handle before e)
  pub new_cursor : IsTrue (handles.gives_new_cursor before e)
  pub width : IsTrue (handles.has_width_of_cursor before e)

-- Holds if the entry keeps the order of a whole journal.
pub record KeepsWholeJournal (before : List Entry) (e : Entry) : Type 0 where
  pub one_connection : IsTrue (whole.has_one_connection before e)
  pub not_after_refusal : IsTrue (whole.follows_no_refusal before)
  pub after_whole_tenure : IsTrue (whole.follows_whole_tenure before e)
  pub connect_first : IsTrue (whole.connects_first before e)
  pub not_after_shut : IsTrue (whole.follows_no_shut before)
  pub rising : IsTrue (whole.has_rising_tenure before e)
  pub from_one : IsTrue (whole.starts_with_tenure_one before e)
  pub not_tidied_when_bad : IsTrue (whole.tidies_nothing_bad before e)
  pub in_bad_tenure : IsTrue (whole.stays_in_bad_tenure before e)
  pub shut_when_invalid : IsTrue (whole.shuts_after_invalid before e)

-- Holds if the entry may come next.
pub record MayFollow (before : List Entry) (e : Entry) : Type 0 where
  pub whole_journal : KeepsWholeJournal before e
  pub tenure : KeepsTenure before e
  pub transaction : e.tx ≢ 0 → KeepsTransaction before e
  pub handles : KeepsHandlesAndCursors before e
  pub answer : FitsAtItsPlace before e

-- Holds if tenure n may be Shut's: the connection was opened and not shut, and the tenure under way is whole.
pub record MayShut (before : List Entry) (n : ℕ) : Type 0 where
  pub beginning : IsJournalPrefix before
  pub opened : IsFalse (is_empty before)
  pub not_refused : IsFalse (was_refused before)
  pub not_shut : IsFalse (was_shut before)
  pub whole : IsWholeTenure before
  pub above : last_tenure before < n
