-- Damaged journals, of handles, cursors and answers, and of the order of tenures. Each has an entry that is
-- refused, with a rule that the entry breaks.
use Rattle.std.specs.Prelude.{negsuc, List, [], ◌∷◌}
use Rattle.dsql_tenure_journal.specs.declared.entry.Entry.{Entry}
use Rattle.dsql_tenure_journal.specs.declared.entry.Owner.TheVariants.{Pin}
use Rattle.dsql_driver.specs.declared.call.DriverCall.TheVariants.{Connect, Reset, Valid, Ping, CloseStmt, Next, CloseRows, Commit, Shut}
use Rattle.dsql_driver.specs.declared.answer.DriverAnswer.TheVariants.{Done, Prepared, End, Invalid, Skip, Bad, Memory}
use Rattle.dsql_tenure_journal.specs.HandlesAndCursors as handles
use Rattle.dsql_tenure_journal.specs.WholeJournal as whole
use Rattle.dsql_tenure_journal.specs.Samples.{exec_text, query_text, exec_handle, prepare, begin, result, gives_handle, gives_cursor, row_of_three, fails, heard, house, by_call, in_tx, in_pin, after, Refuses}

-- Returns a journal with a query in a Call tenure and the entries after it.
abbrev pub queried : List Entry → List Entry
queried then = after (by_call 1 2 query_text (gives_cursor 1) ∷ then)

-- Journals that break the rules for handles, cursors and answers.
pub record RefusedInHandles : Type 0 where
  pub exec_on_closed_handle :
      Refuses (after (by_call 1 2 prepare (gives_handle 1) ∷ house 3 (CloseStmt 1) Done ∷ []))
      (by_call 2 4 (exec_handle 1) result) handles.has_live_handle
  pub close_of_unknown_handle : Refuses (after []) (house 2 (CloseStmt 9) Done) handles.has_live_handle
  pub handle_of_a_failed_prepare : Refuses (after (by_call 1 2 prepare fails ∷ []))
      (by_call 2 3 (exec_handle 1) result) handles.has_live_handle
  pub next_of_unknown_cursor : Refuses (after []) (in_pin 2 0 (Next 1) End) handles.has_live_cursor
  pub rows_closed_twice : Refuses (queried (by_call 1 2 (CloseRows 1) Done ∷ []))
      (by_call 1 2 (CloseRows 1) Done) handles.has_live_cursor
  pub next_after_end : Refuses (queried (by_call 1 2 (Next 1) End ∷ []))
      (by_call 1 2 (Next 1) End) handles.fetches_before_the_end
  pub next_after_fail : Refuses (queried (by_call 1 2 (Next 1) fails ∷ []))
      (by_call 1 2 (Next 1) End) handles.fetches_before_the_end
  pub foreign_handle :
      Refuses (after (in_pin 2 0 prepare (gives_handle 1) ∷ in_pin 3 3 begin Done ∷ []))
      (in_pin 4 3 (exec_handle 1) result) handles.has_transaction_of_handle
  pub handle_of_a_transaction_outside :
      Refuses (after (in_pin 2 2 begin Done ∷ in_pin 3 2 prepare (gives_handle 1) ∷ in_pin 4 2 Commit Done ∷ []))
      (in_pin 5 0 (exec_handle 1) result) handles.has_transaction_of_handle
  pub foreign_cursor :
      Refuses (after (in_pin 2 0 query_text (gives_cursor 1) ∷ in_pin 3 3 begin Done ∷ []))
      (in_pin 4 3 (Next 1) End) handles.has_transaction_of_cursor
  pub cursor_in_another_tenure : Refuses (queried []) (by_call 2 3 (Next 1) End) handles.uses_cursor_in_its_tenure
  pub pin_handle_in_another_tenure :
      Refuses (after (in_pin 2 0 prepare (gives_handle 1) ∷ []))
      (heard 3 (Pin 2) 3 0 (exec_handle 1) result) handles.uses_handle_in_its_tenure
  pub call_handle_in_a_pin : Refuses (after (by_call 1 2 prepare (gives_handle 1) ∷ []))
      (heard 3 (Pin 2) 3 0 (exec_handle 1) result) handles.uses_handle_in_call_tenures
  pub memory_heard : Refuses (after []) (by_call 1 2 Ping Memory) (λ before e. handles.is_heard e)
  pub skipped_handle : Refuses (after (by_call 1 2 prepare (gives_handle 1) ∷ []))
      (by_call 1 2 (exec_handle 1) Skip) (λ before e. handles.is_fitting e)
  pub bad_of_valid : Refuses (after []) (by_call 1 2 Valid Bad) (λ before e. handles.is_fitting e)
  pub minus_two_inputs : Refuses (after []) (by_call 1 2 prepare (Prepared 1 (negsuc 1)))
      (λ before e. handles.is_fitting e)
  pub prepared_with_live_handle : Refuses (after (by_call 1 2 prepare (gives_handle 1) ∷ []))
      (by_call 2 3 prepare (gives_handle 1)) handles.gives_new_handle
  pub query_with_live_cursor : Refuses (after (in_pin 2 0 query_text (gives_cursor 1) ∷ []))
      (in_pin 3 0 query_text (gives_cursor 1)) handles.gives_new_cursor
  pub row_of_wrong_width : Refuses (queried []) (by_call 1 2 (Next 1) row_of_three) handles.has_width_of_cursor

-- Journals that break the order of tenures.
pub record RefusedInWhole : Type 0 where
  pub another_connection : Refuses (after []) (record (house 2 Shut Done) { conn = 2 }) whole.has_one_connection
  pub shut_after_refused_connect : Refuses (house 1 Connect Bad ∷ []) (house 2 Shut Done)
      (λ before e. whole.follows_no_refusal before)
  pub rows_left_live : Refuses (queried []) (house 3 Shut Done) whole.follows_whole_tenure
  pub transaction_left_open : Refuses (after (in_pin 2 2 begin Done ∷ []))
      (house 3 Shut Done) whole.follows_whole_tenure
  pub handle_left_live_in_a_pin : Refuses (after (in_pin 2 0 prepare (gives_handle 1) ∷ []))
      (house 3 Shut Done) whole.follows_whole_tenure
  pub exec_beside_a_transaction : Refuses (after (in_tx 1 begin Done ∷ []))
      (by_call 2 3 exec_text result) whole.follows_whole_tenure
  pub handle_left_live_in_a_transaction :
      Refuses (after (in_tx 1 begin Done ∷ in_tx 1 prepare (gives_handle 1) ∷ in_tx 1 Commit Done ∷ []))
      (house 3 Shut Done) whole.follows_whole_tenure
  pub transaction_left_open_when_bad : Refuses (after (in_tx 1 begin Done ∷ in_tx 2 exec_text Bad ∷ []))
      (house 3 Shut Done) whole.follows_whole_tenure
  pub exec_first : Refuses [] (by_call 1 1 exec_text result) whole.connects_first
  pub connect_twice : Refuses (after []) (house 2 Connect Done) whole.connects_first
  pub shut_twice : Refuses (after (house 2 Shut Done ∷ [])) (house 3 Shut Done)
      (λ before e. whole.follows_no_shut before)
  pub close_after_shut : Refuses (after (by_call 1 2 prepare (gives_handle 1) ∷ house 3 Shut Done ∷ []))
      (house 4 (CloseStmt 1) Done) (λ before e. whole.follows_no_shut before)
  pub earlier_tenure : Refuses (after (by_call 1 3 exec_text result ∷ []))
      (by_call 2 2 exec_text result) whole.has_rising_tenure
  pub connect_in_tenure_two : Refuses [] (house 2 Connect Done) whole.starts_with_tenure_one
  pub valid_after_bad : Refuses (after (by_call 1 2 exec_text Bad ∷ []))
      (by_call 1 2 Valid Done) whole.tidies_nothing_bad
  pub rows_closed_after_bad : Refuses
      (after (in_pin 2 0 query_text (gives_cursor 1) ∷ in_pin 2 0 (Next 1) Bad ∷ []))
      (in_pin 2 0 (CloseRows 1) Done) whole.tidies_nothing_bad
  pub statement_closed_after_bad : Refuses (after (in_pin 2 0 prepare (gives_handle 1) ∷ in_pin 3 0 Ping Bad ∷ []))
      (in_pin 1 0 (CloseStmt 1) Done) whole.tidies_nothing_bad
  pub reset_after_bad : Refuses (after (by_call 1 2 exec_text Bad ∷ []))
      (by_call 2 3 Reset Done) whole.tidies_nothing_bad
  pub tenure_after_bad : Refuses (after (by_call 1 2 exec_text Bad ∷ []))
      (by_call 2 3 exec_text result) whole.stays_in_bad_tenure
  pub exec_after_invalid : Refuses (after (by_call 1 2 Valid Invalid ∷ []))
      (by_call 2 3 exec_text result) whole.shuts_after_invalid
