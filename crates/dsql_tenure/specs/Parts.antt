-- The rules of a journal in groups, as they are tested together.
use Rattle.std.specs.Prelude.{Bool, ◌&&◌, List}
use Rattle.dsql_tenure_journal.specs.declared.entry.Entry.{Entry}
use Rattle.dsql_tenure_journal.specs.HandlesAndCursors.{has_live_handle, has_live_cursor, fetches_before_the_end, has_transaction_of_handle, has_transaction_of_cursor, uses_cursor_in_its_tenure, uses_handle_in_its_tenure, uses_handle_in_call_tenures}
use Rattle.dsql_tenure_journal.specs.WholeJournal.{follows_no_refusal, follows_no_shut, follows_whole_tenure, connects_first, starts_with_tenure_one, has_rising_tenure, tidies_nothing_bad, stays_in_bad_tenure, shuts_after_invalid}

-- Is true if something is left to be heard.
abbrev pub hears_more : List Entry → Bool
hears_more before = follows_no_refusal before && follows_no_shut before

-- Is true if Connect is the first entry, in tenure 1, and only the first.
abbrev pub begins_well : List Entry → Entry → Bool
begins_well before entry = connects_first before entry && starts_with_tenure_one before entry

-- Is true if tenures are numbered upward and the last one is whole before another begins.
abbrev pub rises : List Entry → Entry → Bool
rises before entry = has_rising_tenure before entry && follows_whole_tenure before entry

abbrev pub keeps_order : List Entry → Entry → Bool
keeps_order before entry = hears_more before && begins_well before entry && rises before entry

-- Is true if the entry keeps the rules that a Bad or Invalid answer leaves.
abbrev pub keeps_bad : List Entry → Entry → Bool
keeps_bad before entry =
    tidies_nothing_bad before entry && stays_in_bad_tenure before entry && shuts_after_invalid before entry

-- Is true if the handle that the entry names, if any, is live and may be used there.
abbrev pub keeps_handle : List Entry → Entry → Bool
keeps_handle before entry =
    has_live_handle before entry
    && has_transaction_of_handle before entry
    && uses_handle_in_its_tenure before entry
    && uses_handle_in_call_tenures before entry

-- Is true if the cursor that the entry names, if any, is live and may be used there.
abbrev pub keeps_cursor : List Entry → Entry → Bool
keeps_cursor before entry =
    has_live_cursor before entry
    && fetches_before_the_end before entry
    && has_transaction_of_cursor before entry
    && uses_cursor_in_its_tenure before entry
