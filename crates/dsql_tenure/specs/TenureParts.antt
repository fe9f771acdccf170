-- The rules of a tenure in groups, by what is kept of it.
use Rattle.std.specs.Prelude.{ℕ, Bool, true, false, ◌&&◌, ◌||◌, not, ◌==◌, nat_lt, Option, Some, None, is_none, List, if◌then◌else◌}
use Rattle.std.specs.List.{list_all}
use Rattle.dsql_tenure_journal.specs.declared.entry.Entry.{Entry}
use Rattle.dsql_tenure_journal.specs.declared.entry.Owner.{Owner}
use Rattle.dsql_tenure_journal.specs.declared.entry.Owner.TheVariants.{Call, Tx, Pin, House}
use Rattle.dsql_tenure_journal.specs.Kinds.{◌⇒◌, if_any, is_house, same_owner}
use Rattle.dsql_driver.specs.Kinds.{is_connect, is_reset, is_valid, is_ping, is_prepare, is_next, is_close_stmt, is_shut, runs_handle, handle_of}
use Rattle.dsql_tenure_journal.specs.Readers.{handles}
use Rattle.dsql_tenure_journal.specs.Tenure.{place, is_body, is_refused_begin, is_pin_body, is_outside_transactions, closes_rows_first, is_whole_at_valid}
use Rattle.dsql_tenure.specs.declared.so_far.Prepared.{Prepared}
use Rattle.dsql_tenure.specs.declared.so_far.Prepared.TheVariants.{Nothing, Handle, Otherwise}
use Rattle.dsql_tenure.specs.declared.so_far.SoFar.{SoFar}

-- Is true if the owner is the one that the tenure has, if it has one.
abbrev pub has_owner : Option Owner → Owner → Bool
has_owner None owner = true
has_owner (Some known) owner = same_owner known owner

-- Is true if the house sends a single entry, for no call and in no transaction.
abbrev pub keeps_house : SoFar → Entry → Bool
keeps_house so_far entry =
    is_house entry.owner ⇒ is_none so_far.owner && (is_connect entry.call || is_close_stmt entry.call
    || is_shut entry.call) && (entry.call_no == 0) && (entry.tx == 0)

-- Is true if the entry keeps the rules for the owner, the house, a Reset at the head, and nothing after a
-- Valid.
abbrev pub keeps_shape : SoFar → Entry → Bool
keeps_shape so_far entry =
    has_owner so_far.owner entry.owner && keeps_house so_far entry && (is_reset entry.call ⇒ is_none so_far.owner)
    && not so_far.tested

-- Is true if a call on the database pings, or works in its order.
abbrev pub goes_in_order : SoFar → Entry → Bool
goes_in_order so_far entry =
    if is_ping entry.call then not so_far.worked else (nat_lt 0 (place entry.call) && not so_far.pinged
    && (nat_lt so_far.place (place entry.call) || is_next entry.call && (so_far.place == 4)))

-- Is true if the handle may be run after such Prepares.
abbrev pub allows : Prepared → ℕ → Bool
allows Nothing number = true
allows (Handle handle) number = handle == number
allows Otherwise number = false

-- Is true if the entry prepares or runs a handle only after a skip.
abbrev pub follows_skip : SoFar → Entry → Bool
follows_skip so_far entry = is_prepare entry.call || runs_handle entry.call ⇒ not so_far.ran

-- Is true if the entry runs its own handle.
abbrev pub runs_own : SoFar → Entry → Bool
runs_own so_far entry = runs_handle entry.call ⇒ if_any (handle_of entry.call) (allows so_far.prepared)

-- Is true if both hold and the entry follows no Bad answer.
abbrev pub runs_well : SoFar → Entry → Bool
runs_well so_far entry = follows_skip so_far entry && runs_own so_far entry && not so_far.bad

-- Is true if the live handle that the entry closes was prepared in this tenure.
abbrev pub closes_own : List Entry → Entry → Bool
closes_own before entry =
    is_close_stmt entry.call ⇒ if_any (handle_of entry.call) (λ n. list_all (λ h. not (h.number == n)
    || (h.tenure == entry.tenure)) (handles before))

-- Is true if the entry keeps the rules for the body of a tenure of a call on the database.
abbrev pub keeps_call : SoFar → List Entry → Entry → Bool
keeps_call so_far before entry =
    goes_in_order so_far entry && closes_own before entry && runs_well so_far entry
    && closes_rows_first before entry && is_outside_transactions entry

-- Is true if the entry keeps the rules for the body of a tenure of transaction n.
abbrev pub keeps_tx : SoFar → ℕ → Entry → Bool
keeps_tx so_far number entry =
    not so_far.worked && is_refused_begin entry || not (number == 0) && (entry.tx == number) && not so_far.refused

-- Is true if the entry keeps the rules for the body of a tenure.
abbrev pub keeps_body : SoFar → Owner → List Entry → Entry → Bool
keeps_body so_far (Call number) before entry = keeps_call so_far before entry
keeps_body so_far (Tx number) before entry = keeps_tx so_far number entry
keeps_body so_far (Pin number) before entry = is_pin_body entry
keeps_body so_far House before entry = true

-- Is true if tests stand in no transaction, nothing follows a Reset answered Bad, and the body keeps its rules.
abbrev pub keeps_tests_and_body : SoFar → List Entry → Entry → Bool
keeps_tests_and_body so_far before entry =
    (is_reset entry.call || is_valid entry.call ⇒ entry.tx == 0) && not so_far.fell
    && (is_body entry ⇒ keeps_body so_far entry.owner before entry)

-- Is true if the tenure is whole at its Valid, and the rest keeps its rules.
abbrev pub keeps_rest : SoFar → List Entry → Entry → Bool
keeps_rest so_far before entry = is_whole_at_valid before entry && keeps_tests_and_body so_far before entry
