-- Damaged journals. Each has an entry that is refused, with a rule that the entry breaks.
use Rattle.std.specs.Prelude.{[], ◌∷◌}
use Rattle.dsql_tenure_journal.specs.declared.entry.Owner.TheVariants.{Call, Tx, Pin, House}
use Rattle.dsql_driver.specs.declared.call.DriverCall.TheVariants.{Reset, Valid, Ping, CloseStmt, Next, Commit, Rollback}
use Rattle.dsql_driver.specs.declared.answer.DriverAnswer.TheVariants.{Done, Skip, Bad, End}
use Rattle.dsql_tenure_journal.specs.Tenure as tenure
use Rattle.dsql_tenure_journal.specs.Transaction as transaction
use Rattle.dsql_tenure_journal.specs.Samples.{exec_text, query_text, exec_handle, query_handle, prepare, begin, result, gives_handle, gives_cursor, fails, heard, house, by_call, in_tx, in_pin, after, Refuses}

-- Journals that break the shape of a tenure.
pub record RefusedInTenure : Type 0 where
  pub second_owner : Refuses (after (by_call 1 2 exec_text Skip ∷ []))
      (by_call 2 2 prepare (gives_handle 1)) tenure.has_one_owner
  pub exec_of_the_house : Refuses (after []) (house 2 exec_text result) (λ before e. tenure.is_house_call e)
  pub second_entry_of_the_house :
      Refuses (after (by_call 1 2 prepare (gives_handle 1) ∷ by_call 2 3 prepare (gives_handle 2) ∷ house 4
      (CloseStmt 1) Done ∷ [])) (house 4 (CloseStmt 2) Done) tenure.is_alone_of_house
  pub house_with_a_call_number :
      Refuses (after (by_call 1 2 prepare (gives_handle 1) ∷ [])) (heard 3 House 2 0 (CloseStmt 1) Done)
      (λ before e. tenure.has_house_numbers e)
  pub reset_in_the_middle : Refuses (after (in_pin 2 0 Ping Done ∷ [])) (in_pin 2 0 Reset Done) tenure.resets_first
  pub second_reset : Refuses (after (by_call 1 2 Reset Done ∷ [])) (by_call 1 2 Reset Done) tenure.resets_first
  pub exec_after_bad_reset : Refuses (after (in_pin 1 0 Reset Bad ∷ []))
      (in_pin 2 0 exec_text result) tenure.follows_no_bad_reset
  pub exec_after_valid : Refuses (after (by_call 1 2 Valid Done ∷ []))
      (by_call 1 2 exec_text result) tenure.has_no_valid_before
  pub valid_over_live_rows : Refuses (after (by_call 1 2 query_text (gives_cursor 1) ∷ []))
      (by_call 1 2 Valid Done) tenure.is_whole_at_valid
  pub valid_in_open_transaction : Refuses (after (in_tx 1 begin Done ∷ []))
      (heard 2 (Tx 1) 1 0 Valid Done) tenure.is_whole_at_valid
  pub valid_with_a_transaction :
      Refuses (after (in_tx 1 begin Done ∷ in_tx 2 Commit Done ∷ [])) (in_tx 2 Valid Done)
      (λ before e. tenure.tests_without_transaction e)
  pub ping_beside_exec : Refuses (after (by_call 1 2 exec_text result ∷ [])) (by_call 1 2 Ping Done) tenure.pings_alone
  pub exec_beside_ping : Refuses (after (by_call 1 2 Ping Done ∷ [])) (by_call 1 2 exec_text result) tenure.pings_alone
  pub begin_in_a_call : Refuses (after []) (by_call 1 2 begin fails) (λ before e. tenure.is_call_body e)
  pub text_after_prepare : Refuses (after (by_call 1 2 prepare (gives_handle 1) ∷ []))
      (by_call 1 2 exec_text result) tenure.goes_in_order
  pub text_twice : Refuses (after (by_call 1 2 exec_text Skip ∷ [])) (by_call 1 2 exec_text Skip) tenure.goes_in_order
  pub prepare_after_result : Refuses (after (by_call 1 2 exec_text result ∷ []))
      (by_call 1 2 prepare (gives_handle 1)) tenure.follows_skip
  pub run_of_another_statement :
      Refuses (after (by_call 1 2 prepare (gives_handle 1) ∷ by_call 2 3 prepare (gives_handle 2) ∷ []))
      (by_call 2 3 (exec_handle 1) result) tenure.runs_own_handle
  pub cursor_of_no_query_of_its_own : Refuses (after []) (by_call 1 2 (Next 1) End) tenure.uses_own_cursor
  pub close_of_another_statement :
      Refuses (after (by_call 1 2 prepare (gives_handle 1) ∷ by_call 2 3 prepare (gives_handle 2) ∷ []))
      (by_call 2 3 (CloseStmt 1) Done) tenure.closes_own_handle
  pub prepare_after_bad : Refuses (after (by_call 1 2 exec_text Bad ∷ []))
      (by_call 1 2 prepare (gives_handle 1)) tenure.follows_no_bad
  pub statement_closed_before_rows :
      Refuses (after (by_call 1 2 prepare (gives_handle 1) ∷ by_call 1 2 (query_handle 1) (gives_cursor 1) ∷ []))
      (by_call 1 2 (CloseStmt 1) Done) tenure.closes_rows_first
  pub transaction_in_a_call : Refuses (after []) (heard 2 (Call 1) 1 1 exec_text result)
      (λ before e. tenure.is_outside_transactions e)
  pub exec_outside_in_a_tx : Refuses (after (in_tx 1 begin Done ∷ [])) (heard 2 (Tx 1) 2 0 exec_text result)
      (tenure.is_tx_body 1)
  pub begin_after_failed_begin : Refuses (after (heard 2 (Tx 1) 1 0 begin fails ∷ [])) (in_tx 1 begin Done)
      (tenure.is_tx_body 1)
  pub commit_outside_in_a_pin : Refuses (after []) (in_pin 2 0 Commit Done) (λ before e. tenure.is_pin_body e)

-- Journals that break the rules of a transaction.
pub record RefusedInTransaction : Type 0 where
  pub in_a_second_tenure :
      Refuses (after (in_pin 2 2 begin Done ∷ in_pin 3 2 Commit Done ∷ []))
      (heard 3 (Pin 4) 5 2 begin Done) transaction.stands_in_one_tenure
  pub of_another_owner : Refuses (after []) (heard 2 (Tx 1) 2 2 begin Done)
      (λ before e. transaction.has_owner_of_transaction e)
  pub commit_without_begin : Refuses (after []) (in_tx 1 Commit Done) transaction.starts_with_begin
  pub begin_by_another_call : Refuses (after []) (in_tx 2 begin Done) transaction.starts_with_begin
  pub failed_begin_with_a_number : Refuses (after []) (in_tx 1 begin fails) transaction.starts_with_begin
  pub begin_twice : Refuses (after (in_tx 1 begin Done ∷ [])) (in_tx 1 begin Done) transaction.begins_once
  pub ping_in_a_transaction : Refuses (after (in_tx 1 begin Done ∷ []))
      (in_tx 2 Ping Done) transaction.is_transaction_call
  pub two_rollbacks : Refuses (after (in_tx 1 begin Done ∷ in_tx 2 Rollback Done ∷ []))
      (in_tx 2 Rollback Done) transaction.ends_once
  pub rollback_after_commit : Refuses (after (in_pin 2 2 begin Done ∷ in_pin 3 2 Commit fails ∷ []))
      (in_pin 4 2 Rollback Done) transaction.ends_once
  pub exec_after_commit : Refuses (after (in_tx 1 begin Done ∷ in_tx 2 Commit Done ∷ []))
      (in_tx 3 exec_text result) transaction.closes_after_end
  pub closes_what_a_pin_prepared :
      Refuses (after (in_pin 2 0 prepare (gives_handle 1) ∷ in_pin 3 3 begin Done ∷ in_pin 4 3 Commit Done ∷ []))
      (in_pin 4 3 (CloseStmt 1) Done) transaction.closes_what_it_prepared
  pub cursor_open_at_commit :
      Refuses (after (in_tx 1 begin Done ∷ in_tx 2 query_text (gives_cursor 1) ∷ []))
      (in_tx 3 Commit Done) transaction.ends_without_cursors
