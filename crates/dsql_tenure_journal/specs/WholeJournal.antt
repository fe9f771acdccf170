-- The order of a whole journal. Each rule is one condition on the entry e that comes next, over what stands
-- before it.
use Rattle.std.specs.Prelude.{Bool, ◌&&◌, ◌||◌, not, ◌==◌, nat_lt, nat_le, List, if◌then◌else◌}
use Rattle.std.specs.List.{list_all}
use Rattle.dsql_tenure_journal.specs.declared.entry.Entry.{Entry}
use Rattle.dsql_tenure_journal.specs.Kinds.{◌⇒◌, if_any}
use Rattle.dsql_driver.specs.Kinds.{is_connect, is_reset, is_valid, is_close_stmt, is_close_rows, is_shut}
use Rattle.dsql_tenure_journal.specs.Readers.{is_empty, last_tenure, bad_tenure, went_bad, went_invalid, was_refused, was_shut}
use Rattle.dsql_tenure_journal.specs.Tenure.{is_whole_tenure}

-- Is true if all entries are of the same connection.
abbrev pub has_one_connection : List Entry → Entry → Bool
has_one_connection before e = list_all (λ x. x.conn == e.conn) before

-- Is true if no Connect answered Bad or Fail stands before. Such a Connect is all that there is.
abbrev pub follows_no_refusal : List Entry → Bool
follows_no_refusal before = not (was_refused before)

-- Is true if a tenure is whole before another one begins.
abbrev pub follows_whole_tenure : List Entry → Entry → Bool
follows_whole_tenure before e =
    nat_lt (last_tenure before) e.tenure ⇒ is_whole_tenure (last_tenure before) before

-- Is true if Connect is the first entry, and only the first.
abbrev pub connects_first : List Entry → Entry → Bool
connects_first before e = if is_empty before then is_connect e.call else not (is_connect e.call)

-- Is true if no Shut stands before. Nothing comes after Shut.
abbrev pub follows_no_shut : List Entry → Bool
follows_no_shut before = not (was_shut before)

-- Is true if tenures are numbered upward.
abbrev pub has_rising_tenure : List Entry → Entry → Bool
has_rising_tenure before e = nat_le (last_tenure before) e.tenure

-- Is true if the first tenure has number 1.
abbrev pub starts_with_tenure_one : List Entry → Entry → Bool
starts_with_tenure_one before e = is_empty before ⇒ e.tenure == 1

-- Is true if after a Bad answer the connection isn't tidied or tested: there is no Reset, Valid, CloseStmt or
-- CloseRows.
abbrev pub tidies_nothing_bad : List Entry → Entry → Bool
tidies_nothing_bad before e =
    went_bad before ⇒ not (is_reset e.call || is_valid e.call || is_close_stmt e.call || is_close_rows e.call)

-- Is true if after a Bad answer no further tenure begins except that of Shut.
abbrev pub stays_in_bad_tenure : List Entry → Entry → Bool
stays_in_bad_tenure before e = if_any (bad_tenure before) (λ n. e.tenure == n || is_shut e.call)

-- Is true if after a Valid answered Invalid there is only Shut.
abbrev pub shuts_after_invalid : List Entry → Entry → Bool
shuts_after_invalid before e = went_invalid before ⇒ is_shut e.call

-- Is true if the entry keeps all rules for the order of a whole journal.
abbrev pub keeps_whole_journal : List Entry → Entry → Bool
keeps_whole_journal before e =
    has_one_connection before e
    && follows_no_refusal before
    && follows_whole_tenure before e
    && connects_first before e
    && follows_no_shut before
    && has_rising_tenure before e
    && starts_with_tenure_one before e
    && tidies_nothing_bad before e
    && stays_in_bad_tenure before e
    && shuts_after_invalid before e
