-- Defines that callers are kept apart: who may send a driver call, and in which tenure. Each rule is one condition on
-- the entry that comes next, over the events before it. The layer itself sends with call number 0.
use Rattle.std.specs.Prelude.{ℕ, ◌==◌, Bool, true, false, not, ◌&&◌, ◌||◌, List, [], ◌∷◌, is_some}
use Rattle.dsql_laws_calls.specs.driver.declared.call.DriverCall.{DriverCall}
use Rattle.dsql_laws_calls.specs.driver.declared.call.DriverCall.TheVariants as calls
use Rattle.dsql_laws_calls.specs.driver.Kinds.{is_begin}
use Rattle.dsql_laws_calls.specs.journal.declared.entry.Entry.{Entry}
use Rattle.dsql_laws_calls.specs.journal.Kinds.{◌⇒◌, is_house, is_tx_number, number_of, same_owner}
use Rattle.dsql_laws_calls.specs.works.Same.{same_truth}
use Rattle.dsql_laws_calls.specs.history.declared.event.Event.{Event}
use Rattle.dsql_laws_calls.specs.history.declared.event.Event.TheVariants.{Heard}
use Rattle.dsql_laws_calls.specs.history.declared.work.Scope.{Scope}
use Rattle.dsql_laws_calls.specs.history.declared.work.Scope.TheVariants.{Db, Held}
use Rattle.dsql_laws_calls.specs.history.declared.work.Work.{Work}
use Rattle.dsql_laws_calls.specs.history.declared.work.Work.TheVariants.{Begin, End, Fetch, Close}
use Rattle.dsql_laws_calls.specs.history.Same.{same_level}
use Rattle.dsql_laws_calls.specs.history.Readers.Course.{has_ended}
use Rattle.dsql_laws_calls.specs.history.Readers.HandedOut.{rows_by}
use Rattle.dsql_laws_calls.specs.history.Readers.Transactions.{is_begun, is_over, tx_ender}
use Rattle.dsql_laws_calls.specs.history.Readers.Unfinished.{is_unfinished}
use Rattle.dsql_laws_calls.specs.history.Readers.Works.{work, scope, is_in, asks, borrower, owner_of}

-- Is true if transaction k was begun. The number is 0 if no call before asked for one under the label.
abbrev pub has_transaction : List Event → ℕ → Bool
has_transaction before k = not (k == 0) && is_begun before k

-- Is true if call k handed out rows. The number is 0 if no call before asked for rows under the label.
abbrev pub has_rows : List Event → ℕ → Bool
has_rows before k = not (k == 0) && is_some (rows_by before k)

-- Is true if the scope is the database, or a transaction that was begun.
abbrev pub has_scope : List Event → Scope → Bool
has_scope before Db = true
has_scope before (Held k) = has_transaction before k

-- Is true if what the work names was made: the transaction was begun, or the rows were handed out.
abbrev pub has_what_it_names : List Event → Work → Bool
has_what_it_names before (End k) = has_transaction before k
has_what_it_names before (Fetch k) = has_rows before k
has_what_it_names before (Close k) = has_rows before k
has_what_it_names before it = has_scope before (scope it)

-- Is true if the work begins a transaction, and this is its Begin, with the options that it asked for.
abbrev pub asks_for : Work → DriverCall → Bool
asks_for (Begin label level read_only) (calls.Begin other only) = same_level level other && same_truth read_only only
asks_for it call = false

-- Is true if the work names transaction k. It is carried out there, or it is about rows that a query there hands out.
abbrev pub names_tx : List Event → ℕ → Work → Bool
names_tx before k (Fetch n) = is_in k (scope (work before n))
names_tx before k (Close n) = is_in k (scope (work before n))
names_tx before k it = is_in k (scope it)

-- Is true if call n ended transaction k. If n is 0, the end of the run did.
abbrev pub has_ended_it : List Event → ℕ → ℕ → Bool
has_ended_it before n k = is_over before k && (tx_ender before k == n)

-- Is true if the layer sent it, or a call that has entered and hasn't replied.
abbrev pub has_unfinished_sender : List Event → Entry → Bool
has_unfinished_sender before e = e.call_no == 0 || is_unfinished before e.call_no

-- Is true if what its sender names was made. So a call on a label that no call before it made sends nothing.
abbrev pub names_what_was_made : List Event → Entry → Bool
names_what_was_made before e = has_what_it_names before (work before e.call_no)

-- Is true if the layer sent it, or a call whose borrower is the owner of the tenure. If that borrower begins a
-- transaction, the owner is the transaction.
abbrev pub uses_its_connection : List Event → Entry → Bool
uses_its_connection before e = e.call_no == 0 || same_owner e.owner (owner_of before (borrower before e.call_no))

-- Is true if a Begin comes from the very call that asked for the transaction, with the options that it asked for.
abbrev pub begins_as_asked : List Event → Entry → Bool
begins_as_asked before e = is_begin e.call ⇒ asks_for (work before e.call_no) e.call

-- Is true if what carries a transaction stands in a tenure of that transaction.
abbrev pub stands_in_its_transaction : Entry → Bool
stands_in_its_transaction e = e.tx == 0 || is_tx_number e.tx e.owner

-- Is true if what carries a transaction is its Begin, or its sender names the transaction or ended it.
abbrev pub comes_from_within : List Event → Entry → Bool
comes_from_within before e =
    e.tx == 0
    || (is_begin e.call || (names_tx before e.tx (work before e.call_no) || has_ended_it before e.call_no e.tx))

-- Is true if the layer itself sends in the tenure of a call or a transaction only after the run has ended.
abbrev pub tidies_after_the_end : List Event → Entry → Bool
tidies_after_the_end before e = e.call_no == 0 && not (is_house e.owner) ⇒ has_ended before

-- Is true if a call that asks for a connection of its own sends on no other.
abbrev pub keeps_to_its_own : List Event → Entry → Bool
keeps_to_its_own before e = asks (work before e.call_no) ⇒ number_of e.owner == e.call_no

-- Is true if the entry keeps all of these rules.
abbrev pub is_apart : List Event → Entry → Bool
is_apart before e =
    has_unfinished_sender before e
    && (names_what_was_made before e
    && (uses_its_connection before e
    && (begins_as_asked before e
    && (stands_in_its_transaction e
    && (comes_from_within before e && (tidies_after_the_end before e && keeps_to_its_own before e))))))

-- Is true if each driver call that was answered keeps them.
abbrev pub are_apart : List Event → Bool
are_apart [] = true
are_apart (Heard e ∷ before) = are_apart before && is_apart before e
are_apart (_ ∷ before) = are_apart before
