-- Worked journals that are whole, oldest entry first.
use Rattle.std.specs.Prelude.{◌≡◌, true, List, [], ◌∷◌}
use Rattle.dsql_tenure_journal.specs.declared.entry.Entry.{Entry}
use Rattle.dsql_driver.specs.declared.call.DriverCall.TheVariants.{Connect, Reset, Valid, Ping, CloseStmt, Next, CloseRows, Commit, Rollback, Shut}
use Rattle.dsql_driver.specs.declared.answer.DriverAnswer.TheVariants.{Done, End, Invalid, Skip, Bad}
use Rattle.dsql_tenure_journal.specs.Journal.{is_whole}
use Rattle.dsql_tenure_journal.specs.Samples.{exec_text, query_text, exec_handle, query_handle, prepare, begin, result, gives_handle, gives_cursor, row_of_two, fails, house, by_call, in_tx, in_pin, after}

-- A journal in which the Connect was refused, and that is all.
abbrev pub refused : List Entry
refused = house 1 Connect fails ∷ []

abbrev pub one_exec : List Entry
one_exec = after (by_call 1 2 exec_text result ∷ by_call 1 2 Valid Done ∷ house 3 Shut Done ∷ [])

-- A journal in which the driver skips the text and a later call has the Reset.
abbrev pub prepared_path : List Entry
prepared_path = after (
    by_call 1 2 exec_text Skip
    ∷ by_call 1 2 prepare (gives_handle 1)
    ∷ by_call 1 2 (exec_handle 1) result
    ∷ by_call 1 2 (CloseStmt 1) Done
    ∷ by_call 1 2 Valid Done
    ∷ by_call 2 5 Reset fails
    ∷ by_call 2 5 Ping Done
    ∷ house 6 Shut Done
    ∷ [])

abbrev pub query_with_rows : List Entry
query_with_rows = after (
    by_call 1 2 query_text (gives_cursor 1)
    ∷ by_call 1 2 (Next 1) row_of_two
    ∷ by_call 1 2 (Next 1) row_of_two
    ∷ by_call 1 2 (Next 1) End
    ∷ by_call 1 2 (CloseRows 1) Done
    ∷ by_call 1 2 Valid Invalid
    ∷ house 3 Shut Bad
    ∷ [])

-- A query over a handle of its own, with a CloseStmt after its CloseRows. A handle of a DB statement stays
-- until the house closes it.
abbrev pub query_of_handle : List Entry
query_of_handle = after (
    by_call 1 2 prepare (gives_handle 1)
    ∷ by_call 2 3 (query_handle 1) (gives_cursor 1)
    ∷ by_call 2 3 (CloseRows 1) Done
    ∷ by_call 3 4 prepare (gives_handle 2)
    ∷ by_call 3 4 (query_handle 2) (gives_cursor 1)
    ∷ by_call 3 4 (Next 1) End
    ∷ by_call 3 4 (CloseRows 1) Done
    ∷ by_call 3 4 (CloseStmt 2) Done
    ∷ house 5 (CloseStmt 1) fails
    ∷ house 6 Shut Done
    ∷ [])

-- A transaction on the DB with a statement of its own, which is closed after the Commit.
abbrev pub own_statement : List Entry
own_statement = after (
    in_tx 1 begin Done
    ∷ in_tx 2 prepare (gives_handle 1)
    ∷ in_tx 3 (exec_handle 1) result
    ∷ in_tx 4 (query_handle 1) (gives_cursor 1)
    ∷ in_tx 5 (CloseRows 1) Done
    ∷ in_tx 6 Commit Done
    ∷ in_tx 6 (CloseStmt 1) Done
    ∷ house 3 Shut Done
    ∷ [])

-- A pin with two transactions and an exec between them.
abbrev pub two_on_a_pin : List Entry
two_on_a_pin = after (
    in_pin 2 2 begin Done
    ∷ in_pin 3 2 exec_text result
    ∷ in_pin 4 2 Commit Done
    ∷ in_pin 5 0 exec_text result
    ∷ in_pin 6 0 begin fails
    ∷ in_pin 7 7 begin Done
    ∷ in_pin 8 7 query_text (gives_cursor 1)
    ∷ in_pin 9 7 (CloseRows 1) Done
    ∷ in_pin 9 7 Rollback Done
    ∷ in_pin 1 0 Valid Done
    ∷ house 3 Shut Done
    ∷ [])

-- A Bad answer inside a transaction: its cursor and handle stay, and its Rollback is sent.
abbrev pub bad_in_transaction : List Entry
bad_in_transaction = after (
    in_tx 1 begin Done
    ∷ in_tx 2 prepare (gives_handle 1)
    ∷ in_tx 3 (query_handle 1) (gives_cursor 1)
    ∷ in_tx 4 (Next 1) Bad
    ∷ in_tx 5 Rollback Done
    ∷ house 3 Shut Done
    ∷ [])

-- Holds if all of them are whole.
pub record WholeSamples : Type 0 where
  pub refused_connect : is_whole refused ≡ true
  pub opened_and_shut : is_whole (after (house 2 Shut Done ∷ [])) ≡ true
  pub exec : is_whole one_exec ≡ true
  pub shut_when_bad : is_whole (after (by_call 1 2 exec_text Bad ∷ house 3 Shut Done ∷ [])) ≡ true
  pub prepared : is_whole prepared_path ≡ true
  pub rows : is_whole query_with_rows ≡ true
  pub rows_of_handle : is_whole query_of_handle ≡ true
  pub transaction : is_whole own_statement ≡ true
  pub pin : is_whole two_on_a_pin ≡ true
  pub bad_transaction : is_whole bad_in_transaction ≡ true
