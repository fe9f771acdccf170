-- The shape of a tenure. Each rule is one condition on the entry e that comes next, over what stands before it.
use Rattle.std.specs.Prelude.{ℕ, Bool, true, ◌&&◌, ◌||◌, not, ◌==◌, nat_lt, List}
use Rattle.std.specs.List.{filter, list_any, list_all}
use Rattle.dsql_tenure_journal.specs.declared.entry.Entry.{Entry}
use Rattle.dsql_tenure_journal.specs.declared.entry.Owner.{Owner}
use Rattle.dsql_tenure_journal.specs.declared.entry.Owner.TheVariants.{Call, Tx, Pin, House}
use Rattle.dsql_driver.specs.declared.call.DriverCall.{DriverCall}
use Rattle.dsql_driver.specs.declared.call.DriverCall.TheVariants.{Prepare, Exec, Query, Next, CloseRows, CloseStmt}
use Rattle.dsql_driver.specs.declared.call.Input.TheVariants.{Text, Handle}
use Rattle.dsql_driver.specs.Fits.{is_failure, is_skip}
use Rattle.dsql_tenure_journal.specs.Kinds.{◌⇒◌, if_any, is_number, is_house, is_call, same_owner}
use Rattle.dsql_driver.specs.Kinds.{is_connect, is_reset, is_valid, is_ping, is_prepare, runs_text, runs_handle, is_next, is_close_stmt, is_begin, is_shut, is_work, handle_of, cursor_of, given_handle, given_cursor, is_bad}
use Rattle.dsql_tenure_journal.specs.Readers.{is_empty, has, of_tenure, handles, cursors, begun, ended, went_bad}

-- Is true if each transaction that was begun in tenure n has had its Commit or Rollback.
abbrev pub has_ended_transactions : ℕ → List Entry → Bool
has_ended_transactions n journal = list_all (λ m. has m (ended journal)) (begun (of_tenure n journal))

-- Is true if no cursor that was opened in tenure n is live.
abbrev pub has_closed_cursors : ℕ → List Entry → Bool
has_closed_cursors n journal = list_all (λ c. not (c.tenure == n)) (cursors journal)

-- Is true if no handle is live that a transaction or a pinned connection prepared in tenure n. A call's handle
-- may stay, for the statement's later runs.
abbrev pub has_closed_handles : ℕ → List Entry → Bool
has_closed_handles n journal = list_all (λ h. (h.tenure == n) ⇒ is_call h.owner) (handles journal)

-- Is true if tenure n is whole, so that it could end here. After a Bad answer nothing is tidied on a
-- connection, so what is live then doesn't count.
abbrev pub is_whole_tenure : ℕ → List Entry → Bool
is_whole_tenure n journal =
    has_ended_transactions n journal
    && (went_bad journal || has_closed_cursors n journal && has_closed_handles n journal)

-- Returns the entries that the tenure of e has before e, newest first.
abbrev pub earlier : List Entry → Entry → List Entry
earlier before e = of_tenure e.tenure before

-- Is true if all entries of the tenure have the same owner.
abbrev pub has_one_owner : List Entry → Entry → Bool
has_one_owner before e = list_all (λ x. same_owner x.owner e.owner) (earlier before e)

-- Is true if a tenure of the house is a single entry.
abbrev pub is_alone_of_house : List Entry → Entry → Bool
is_alone_of_house before e = is_house e.owner ⇒ is_empty (earlier before e)

-- Is true if the house opens and shuts the connection and closes statements, and sends nothing else.
abbrev pub is_house_call : Entry → Bool
is_house_call e = is_house e.owner ⇒ is_connect e.call || is_close_stmt e.call || is_shut e.call

-- Is true if the house sends for no call and in no transaction.
abbrev pub has_house_numbers : Entry → Bool
has_house_numbers e = is_house e.owner ⇒ e.call_no == 0 && e.tx == 0

-- Is true if a Reset stands at the head of its tenure, so that there is at most one.
abbrev pub resets_first : List Entry → Entry → Bool
resets_first before e = is_reset e.call ⇒ is_empty (earlier before e)

-- Is true if no Valid stands before in the tenure. A Valid is the last entry of its tenure, so there is at most
-- one.
abbrev pub has_no_valid_before : List Entry → Entry → Bool
has_no_valid_before before e = not (list_any (λ x. is_valid x.call) (earlier before e))

-- Is true if the tenure is whole before its Valid. Nothing comes after a Valid that could still make the tenure
-- whole.
abbrev pub is_whole_at_valid : List Entry → Entry → Bool
is_whole_at_valid before e = is_valid e.call ⇒ is_whole_tenure e.tenure before

-- Is true if Reset and Valid stand in no transaction.
abbrev pub tests_without_transaction : Entry → Bool
tests_without_transaction e = is_reset e.call || is_valid e.call ⇒ e.tx == 0

-- Is true if no Reset answered Bad stands before in the tenure. Such a Reset is the last entry of its tenure.
abbrev pub follows_no_bad_reset : List Entry → Entry → Bool
follows_no_bad_reset before e = not (list_any (λ x. is_reset x.call && is_bad x.answer) (earlier before e))

-- Is true if the entry is of the body of its tenure: all entries except its Reset and its Valid.
abbrev pub is_body : Entry → Bool
is_body e = not (is_reset e.call || is_valid e.call)

abbrev pub body : List Entry → Entry → List Entry
body before e = filter is_body (earlier before e)

-- Returns the place of a driver call in the order in which a call on the database works. The order is a run of the
-- text, Prepare, a run of the handle, Nexts, CloseRows, CloseStmt. A driver call without a place in it has 0.
abbrev pub place : DriverCall → ℕ
place (Exec (Text text) params) = 1
place (Query (Text text) params) = 1
place (Prepare text) = 2
place (Exec (Handle handle) params) = 3
place (Query (Handle handle) params) = 3
place (Next rows) = 4
place (CloseRows rows) = 5
place (CloseStmt handle) = 6
place _ = 0

-- Is true if a call on the database pings, or works in that order, and sends nothing else.
abbrev pub is_call_body : Entry → Bool
is_call_body e = is_ping e.call || nat_lt 0 (place e.call)

-- Is true if a ping is all that the tenure has in its body.
abbrev pub pings_alone : List Entry → Entry → Bool
pings_alone before e = is_ping e.call || list_any (λ x. is_ping x.call) (earlier before e) ⇒ is_empty (body before e)

-- Is true if the call keeps the order. It may leave out steps, and takes none twice except Next.
abbrev pub goes_in_order : List Entry → Entry → Bool
goes_in_order before e =
    list_all (λ x. nat_lt (place x.call) (place e.call) || is_next x.call && is_next e.call) (body before e)

-- Is true if a Next or CloseRows is of the cursor that the call's own run gave.
abbrev pub uses_own_cursor : List Entry → Entry → Bool
uses_own_cursor before e =
    if_any (cursor_of e.call) (λ r. list_any (λ x. is_number (given_cursor x.answer) r) (earlier before e))

-- Is true if a CloseStmt is of the handle that the call's own Prepare gave.
abbrev pub closes_own_handle : List Entry → Entry → Bool
closes_own_handle before e =
    is_close_stmt e.call ⇒ if_any (handle_of e.call) (λ h. list_any (λ x. is_number (given_handle x.answer) h)
    (earlier before e))

-- Is true if the call prepares or runs a handle only if it ran no text, or the driver skipped the text.
abbrev pub follows_skip : List Entry → Entry → Bool
follows_skip before e =
    is_prepare e.call || runs_handle e.call ⇒ list_all (λ x. runs_text x.call ⇒ is_skip x.answer) (earlier before e)

-- Is true if the call, if it prepared, runs the handle that its Prepare gave.
abbrev pub runs_own_handle : List Entry → Entry → Bool
runs_own_handle before e =
    runs_handle e.call
    ⇒ if_any (handle_of e.call) (λ h. list_all (λ x. is_prepare x.call ⇒ is_number (given_handle x.answer) h)
    (earlier before e))

-- Is true if the call sends nothing more after it was answered Bad.
abbrev pub follows_no_bad : List Entry → Entry → Bool
follows_no_bad before e = not (went_bad (earlier before e))

-- Is true if the call's rows are closed before its CloseStmt, unless this very CloseStmt is answered Bad. No
-- CloseRows can come after its CloseStmt.
abbrev pub closes_rows_first : List Entry → Entry → Bool
closes_rows_first before e = is_close_stmt e.call ⇒ is_bad e.answer || has_closed_cursors e.tenure before

-- Is true if the entry stands in no transaction.
abbrev pub is_outside_transactions : Entry → Bool
is_outside_transactions e = e.tx == 0

-- Is true if the entry is a Begin answered Bad or Fail, which makes no transaction.
abbrev pub is_refused_begin : Entry → Bool
is_refused_begin e = is_begin e.call && is_failure e.answer && e.tx == 0

-- Is true if the tenure of transaction n has one such Begin and nothing else, or only entries of transaction n.
abbrev pub is_tx_body : ℕ → List Entry → Entry → Bool
is_tx_body n before e =
    is_empty (body before e) && is_refused_begin e
    || not (n == 0) && e.tx == n && not (list_any is_refused_begin (earlier before e))

-- Is true if the entry may stand on a pinned connection. Outside transactions there are pings, work with
-- statements and rows, and refused Begins. Its transactions have rules of their own.
abbrev pub is_pin_body : Entry → Bool
is_pin_body e = e.tx == 0 ⇒ is_ping e.call || is_work e.call || is_refused_begin e

-- Is true if the entry keeps all rules for the body of a tenure of Call(n).
abbrev pub keeps_call_body : List Entry → Entry → Bool
keeps_call_body before e =
    is_call_body e
    && pings_alone before e
    && goes_in_order before e
    && uses_own_cursor before e
    && closes_own_handle before e
    && follows_skip before e
    && runs_own_handle before e
    && follows_no_bad before e
    && closes_rows_first before e
    && is_outside_transactions e

-- Is true if the entry keeps all rules for the body of an owner's tenure.
abbrev pub keeps_body : Owner → List Entry → Entry → Bool
keeps_body (Call n) before e = keeps_call_body before e
keeps_body (Tx n) before e = is_tx_body n before e
keeps_body (Pin n) before e = is_pin_body e
keeps_body House before e = true

-- Is true if the entry keeps all rules of a tenure.
abbrev pub keeps_tenure : List Entry → Entry → Bool
keeps_tenure before e =
    has_one_owner before e
    && is_alone_of_house before e
    && is_house_call e
    && has_house_numbers e
    && resets_first before e
    && has_no_valid_before before e
    && is_whole_at_valid before e
    && tests_without_transaction e
    && follows_no_bad_reset before e
    && (is_body e ⇒ keeps_body e.owner before e)
