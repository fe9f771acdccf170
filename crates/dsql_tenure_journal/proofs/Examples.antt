-- Each worked journal is judged by computing.
use Rattle.std.proofs.Common.{refl}
use Rattle.dsql_tenure_journal.specs.Accepted.{WholeSamples}
use Rattle.dsql_tenure_journal.specs.RefusedShapes.{RefusedInTenure, RefusedInTransaction}
use Rattle.dsql_tenure_journal.specs.RefusedUses.{RefusedInHandles, RefusedInWhole}

pub whole_samples : WholeSamples
whole_samples = record {
  refused_connect = refl;
  opened_and_shut = refl;
  exec = refl;
  shut_when_bad = refl;
  prepared = refl;
  rows = refl;
  rows_of_handle = refl;
  transaction = refl;
  pin = refl;
  bad_transaction = refl;
}

pub refused_in_tenure : RefusedInTenure
refused_in_tenure = record {
  second_owner = (refl, refl, refl);
  exec_of_the_house = (refl, refl, refl);
  second_entry_of_the_house = (refl, refl, refl);
  house_with_a_call_number = (refl, refl, refl);
  reset_in_the_middle = (refl, refl, refl);
  second_reset = (refl, refl, refl);
  exec_after_bad_reset = (refl, refl, refl);
  exec_after_valid = (refl, refl, refl);
  valid_over_live_rows = (refl, refl, refl);
  valid_in_open_transaction = (refl, refl, refl);
  valid_with_a_transaction = (refl, refl, refl);
  ping_beside_exec = (refl, refl, refl);
  exec_beside_ping = (refl, refl, refl);
  begin_in_a_call = (refl, refl, refl);
  text_after_prepare = (refl, refl, refl);
  text_twice = (refl, refl, refl);
  prepare_after_result = (refl, refl, refl);
  run_of_another_statement = (refl, refl, refl);
  cursor_of_no_query_of_its_own = (refl, refl, refl);
  close_of_another_statement = (refl, refl, refl);
  prepare_after_bad = (refl, refl, refl);
  statement_closed_before_rows = (refl, refl, refl);
  transaction_in_a_call = (refl, refl, refl);
  exec_outside_in_a_tx = (refl, refl, refl);
  begin_after_failed_begin = (refl, refl, refl);
  commit_outside_in_a_pin = (refl, refl, refl);
}

pub refused_in_transaction : RefusedInTransaction
refused_in_transaction = record {
  in_a_second_tenure = (refl, refl, refl);
  of_another_owner = (refl, refl, refl);
  commit_without_begin = (refl, refl, refl);
  begin_by_another_call = (refl, refl, refl);
  failed_begin_with_a_number = (refl, refl, refl);
  begin_twice = (refl, refl, refl);
  ping_in_a_transaction = (refl, refl, refl);
  two_rollbacks = (refl, refl, refl);
  rollback_after_commit = (refl, refl, refl);
  exec_after_commit = (refl, refl, refl);
  closes_what_a_pin_prepared = (refl, refl, refl);
  cursor_open_at_commit = (refl, refl, refl);
}

pub refused_in_handles : RefusedInHandles
refused_in_handles = record {
  exec_on_closed_handle = (refl, refl, refl);
  close_of_unknown_handle = (refl, refl, refl);
  handle_of_a_failed_prepare = (refl, refl, refl);
  next_of_unknown_cursor = (refl, refl, refl);
  rows_closed_twice = (refl, refl, refl);
  next_after_end = (refl, refl, refl);
  next_after_fail = (refl, refl, refl);
  foreign_handle = (refl, refl, refl);
  handle_of_a_transaction_outside = (refl, refl, refl);
  foreign_cursor = (refl, refl, refl);
  cursor_in_another_tenure = (refl, refl, refl);
  pin_handle_in_another_tenure = (refl, refl, refl);
  call_handle_in_a_pin = (refl, refl, refl);
  memory_heard = (refl, refl, refl);
  skipped_handle = (refl, refl, refl);
  bad_of_valid = (refl, refl, refl);
  minus_two_inputs = (refl, refl, refl);
  prepared_with_live_handle = (refl, refl, refl);
  query_with_live_cursor = (refl, refl, refl);
  row_of_wrong_width = (refl, refl, refl);
}

pub refused_in_whole : RefusedInWhole
refused_in_whole = record {
  another_connection = (refl, refl, refl);
  shut_after_refused_connect = (refl, refl, refl);
  rows_left_live = (refl, refl, refl);
  transaction_left_open = (refl, refl, refl);
  handle_left_live_in_a_pin = (refl, refl, refl);
  exec_beside_a_transaction = (refl, refl, refl);
  handle_left_live_in_a_transaction = (refl, refl, refl);
  transaction_left_open_when_bad = (refl, refl, refl);
  exec_first = (refl, refl, refl);
  connect_twice = (refl, refl, refl);
  shut_twice = (refl, refl, refl);
  close_after_shut = (refl, refl, refl);
  earlier_tenure = (refl, refl, refl);
  connect_in_tenure_two = (refl, refl, refl);
  valid_after_bad = (refl, refl, refl);
  rows_closed_after_bad = (refl, refl, refl);
  statement_closed_after_bad = (refl, refl, refl);
  reset_after_bad = (refl, refl, refl);
  tenure_after_bad = (refl, refl, refl);
  exec_after_invalid = (refl, refl, refl);
}
