-- Handles and cursors, and the answers that fit at their place. Each rule is one condition on the entry e that
-- comes next, over what stands before it.
use Rattle.std.specs.Prelude.{Bool, true, ◌&&◌, ◌||◌, not, ◌==◌, List, length}
use Rattle.std.specs.List.{list_all}
use Rattle.dsql_tenure_journal.specs.declared.entry.Entry.{Entry}
use Rattle.dsql_driver.specs.declared.answer.DriverAnswer.{DriverAnswer}
use Rattle.dsql_driver.specs.declared.answer.DriverAnswer.TheVariants.{Row}
use Rattle.dsql_driver.specs.Fits.{fits_of, is_memory}
use Rattle.dsql_tenure_journal.specs.Kinds.{◌⇒◌, if_any, is_call, is_house}
use Rattle.dsql_driver.specs.Kinds.{is_next, is_close_stmt, handle_of, cursor_of, given_handle, given_cursor}
use Rattle.dsql_tenure_journal.specs.Readers.{is_empty, LiveHandle, LiveCursor, handles_named, cursors_named}

-- Is true if each live handle that the call names passes the test.
abbrev pub each_handle : List Entry → Entry → (LiveHandle → Bool) → Bool
each_handle before e test = if_any (handle_of e.call) (λ h. list_all test (handles_named h before))

-- Is true if each live cursor that the call names passes the test.
abbrev pub each_cursor : List Entry → Entry → (LiveCursor → Bool) → Bool
each_cursor before e test = if_any (cursor_of e.call) (λ r. list_all test (cursors_named r before))

-- Is true if the handle that the call runs or closes, if any, is live.
abbrev pub has_live_handle : List Entry → Entry → Bool
has_live_handle before e = if_any (handle_of e.call) (λ h. not (is_empty (handles_named h before)))

-- Is true if the cursor that the call reads or closes, if any, is live.
abbrev pub has_live_cursor : List Entry → Entry → Bool
has_live_cursor before e = if_any (cursor_of e.call) (λ r. not (is_empty (cursors_named r before)))

-- Is true if the call reads no cursor after a Next of that cursor was answered End, Fail or Bad.
abbrev pub fetches_before_the_end : List Entry → Entry → Bool
fetches_before_the_end before e = is_next e.call ⇒ each_cursor before e (λ c. not c.over)

-- Is true if the call uses its handle in the transaction of the Prepare that gave it, or outside transactions if that
-- Prepare was. A call without a handle passes.
abbrev pub has_transaction_of_handle : List Entry → Entry → Bool
has_transaction_of_handle before e = each_handle before e (λ h. h.tx == e.tx)

-- Is true if the call uses its cursor in the transaction of the Query that gave it, or outside transactions if that
-- Query was. A call without a cursor passes.
abbrev pub has_transaction_of_cursor : List Entry → Entry → Bool
has_transaction_of_cursor before e = each_cursor before e (λ c. c.tx == e.tx)

-- Is true if the cursor that the call names, if any, is used in the tenure of the Query that gave it.
abbrev pub uses_cursor_in_its_tenure : List Entry → Entry → Bool
uses_cursor_in_its_tenure before e = each_cursor before e (λ c. c.tenure == e.tenure)

-- Is true if a handle that a transaction or a pinned connection prepared is used only in that tenure.
abbrev pub uses_handle_in_its_tenure : List Entry → Entry → Bool
uses_handle_in_its_tenure before e = each_handle before e (λ h. not (is_call h.owner) ⇒ h.tenure == e.tenure)

-- Is true if a handle that a call on the database prepared is used in tenures of such calls. The house may
-- close it.
abbrev pub uses_handle_in_call_tenures : List Entry → Entry → Bool
uses_handle_in_call_tenures before e =
    each_handle before e (λ h. is_call h.owner ⇒ is_call e.owner || is_house e.owner && is_close_stmt e.call)

-- Is true if the answer isn't want of memory in the driver, which a journal never has.
abbrev pub is_heard : Entry → Bool
is_heard e = not (is_memory e.answer)

-- Is true if the table of shapes has this answer for its call.
abbrev pub is_fitting : Entry → Bool
is_fitting e = fits_of e.call e.answer

-- Is true if a handle that the answer gives isn't live already.
abbrev pub gives_new_handle : List Entry → Entry → Bool
gives_new_handle before e = if_any (given_handle e.answer) (λ h. is_empty (handles_named h before))

-- Is true if a cursor that the answer gives isn't live already.
abbrev pub gives_new_cursor : List Entry → Entry → Bool
gives_new_cursor before e = if_any (given_cursor e.answer) (λ r. is_empty (cursors_named r before))

-- Is true if a Row has as many values as the cursor has columns.
abbrev pub is_as_wide : DriverAnswer → LiveCursor → Bool
is_as_wide (Row values) c = c.columns == length values
is_as_wide _ c = true

-- Is true if a Row has as many values as its cursor has columns.
abbrev pub has_width_of_cursor : List Entry → Entry → Bool
has_width_of_cursor before e = each_cursor before e (is_as_wide e.answer)

-- Is true if the answer fits at its place.
abbrev pub fits_at_its_place : List Entry → Entry → Bool
fits_at_its_place before e =
    is_heard e
    && is_fitting e
    && gives_new_handle before e
    && gives_new_cursor before e
    && has_width_of_cursor before e

-- Is true if the entry keeps all rules for handles and cursors.
abbrev pub keeps_handles_and_cursors : List Entry → Entry → Bool
keeps_handles_and_cursors before e =
    has_live_handle before e
    && has_live_cursor before e
    && fetches_before_the_end before e
    && has_transaction_of_handle before e
    && has_transaction_of_cursor before e
    && uses_cursor_in_its_tenure before e
    && uses_handle_in_its_tenure before e
    && uses_handle_in_call_tenures before e
