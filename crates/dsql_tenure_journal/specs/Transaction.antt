-- Transactions. Each rule is one condition on the entry e that comes next and has a transaction, over what
-- stands before it.
use Rattle.std.specs.Prelude.{Bool, ◌&&◌, ◌||◌, not, ◌==◌, List}
use Rattle.std.specs.List.{list_any, list_all}
use Rattle.dsql_tenure_journal.specs.declared.entry.Entry.{Entry}
use Rattle.dsql_driver.specs.Fits.{is_done}
use Rattle.dsql_tenure_journal.specs.Kinds.{◌⇒◌, if_any, is_number, is_pin, is_tx_number}
use Rattle.dsql_driver.specs.Kinds.{is_close_stmt, is_begin, is_ending, is_work, handle_of, given_handle}
use Rattle.dsql_tenure_journal.specs.Readers.{is_empty, of_transaction, cursors, went_bad}

-- Returns the entries that the transaction of e has before e, newest first.
abbrev pub earlier : List Entry → Entry → List Entry
earlier before e = of_transaction e.tx before

-- Is true if all entries of the transaction stand in the same tenure.
abbrev pub stands_in_one_tenure : List Entry → Entry → Bool
stands_in_one_tenure before e = list_all (λ x. x.tenure == e.tenure) (earlier before e)

-- Is true if that tenure is the transaction's own or a pinned connection's.
abbrev pub has_owner_of_transaction : Entry → Bool
has_owner_of_transaction e = is_tx_number e.tx e.owner || is_pin e.owner

-- Is true if the transaction starts with a Begin answered Done and has the number of the call that sent it.
abbrev pub starts_with_begin : List Entry → Entry → Bool
starts_with_begin before e = is_empty (earlier before e) ⇒ is_begin e.call && is_done e.answer && e.call_no == e.tx

-- Is true if only the first entry of the transaction is a Begin.
abbrev pub begins_once : List Entry → Entry → Bool
begins_once before e = is_begin e.call ⇒ is_empty (earlier before e)

-- Is true if after the Begin there is work with statements and rows, and a Commit or Rollback, and nothing
-- else.
abbrev pub is_transaction_call : List Entry → Entry → Bool
is_transaction_call before e = is_empty (earlier before e) || is_begin e.call || is_work e.call || is_ending e.call

-- Is true if the transaction has its Commit or Rollback.
abbrev pub has_end : List Entry → Entry → Bool
has_end before e = list_any (λ x. is_ending x.call) (earlier before e)

-- Is true if the transaction has at most one Commit or Rollback, whatever its answer is.
abbrev pub ends_once : List Entry → Entry → Bool
ends_once before e = has_end before e ⇒ not (is_ending e.call)

-- Is true if after its end the transaction only closes statements.
abbrev pub closes_after_end : List Entry → Entry → Bool
closes_after_end before e = has_end before e ⇒ is_close_stmt e.call

-- Is true if the statements that are closed then are those that the transaction prepared itself.
abbrev pub closes_what_it_prepared : List Entry → Entry → Bool
closes_what_it_prepared before e =
    has_end before e ⇒ if_any (handle_of e.call) (λ h. list_any (λ x. is_number (given_handle x.answer) h)
    (earlier before e))

-- Is true if no cursor of the transaction is live at its Commit or Rollback, unless the connection gave a Bad
-- answer before.
abbrev pub ends_without_cursors : List Entry → Entry → Bool
ends_without_cursors before e =
    is_ending e.call ⇒ went_bad before || list_all (λ c. not (c.tx == e.tx)) (cursors before)

-- Is true if the entry keeps all rules of a transaction.
abbrev pub keeps_transaction : List Entry → Entry → Bool
keeps_transaction before e =
    e.tx == 0
    || stands_in_one_tenure before e
    && has_owner_of_transaction e
    && starts_with_begin before e
    && begins_once before e
    && is_transaction_call before e
    && ends_once before e
    && closes_after_end before e
    && closes_what_it_prepared before e
    && ends_without_cursors before e
