-- Worked calls, and numbers by their spelling.
use Rattle.std.specs.Prelude.{◌≡◌, ℕ, pos, negsuc, false, List, [], ◌∷◌, Some, None, codes}
use Rattle.dsql_driver.specs.declared.answer.DriverAnswer.{DriverAnswer}
use Rattle.dsql_driver.specs.declared.answer.DriverAnswer.TheVariants.{Done, Prepared, Result, Cursor, Row, End, Skip}
use Rattle.dsql_driver.specs.declared.call.DriverCall.{DriverCall}
use Rattle.dsql_driver.specs.declared.call.DriverCall.TheVariants.{Prepare, CloseStmt, Exec, Query, Next, CloseRows, Begin, Commit, Rollback, Reset}
use Rattle.dsql_driver.specs.declared.call.Input.TheVariants as input
use Rattle.dsql_driver.specs.declared.call.Level.TheVariants.{Default}
use Rattle.dsql_value.specs.declared.value.Param.{Param}
use Rattle.dsql_value.specs.declared.value.Value.{Value}
use Rattle.dsql_value.specs.declared.value.Value.TheVariants.{Nil, Int, Text}
use Rattle.dsql_mem_calls.specs.Effect.{Effect, effect, only_answered}
use Rattle.dsql_mem_session.specs.Calls.{no_such_handle, no_such_statement, not_a_command, not_a_query, wrong_arguments, key_is_not_text, not_a_number, out_of_range, in_transaction, no_transaction, numbers_spent}
use Rattle.dsql_mem_store.specs.Entries.{Entries, with_value, value_at}
use Rattle.dsql_mem_session.specs.Number.{number_of}
use Rattle.dsql_mem_session.specs.Session.{new_session}
use Rattle.dsql_mem_session.specs.declared.session.MemSession.{MemSession}

-- Holds if these words spell these numbers, or none.
pub record WorkedNumbers : Type 0 where
  pub minus_five : number_of (codes "-5") ≡ Some (negsuc 4)
  pub minus_zero : number_of (codes "-0") ≡ None
  pub plus_seven : number_of (codes "+7") ≡ None
  pub leading_zero : number_of (codes "07") ≡ None
  pub largest : number_of (codes "9223372036854775807") ≡ Some (pos 9223372036854775807)
  pub too_large : number_of (codes "9223372036854775808") ≡ None
  pub smallest : number_of (codes "-9223372036854775808") ≡ Some (negsuc 9223372036854775807)

-- Returns a map with a number, the largest number and a text.
abbrev pub sample : Entries
sample = (codes "b", Int (pos 7)) ∷ (codes "m", Int (pos 9223372036854775807)) ∷ (codes "t", Text (codes "Ann")) ∷ []

-- Returns the effect of executing a text without parameters.
abbrev pub executes : List ℕ → Effect
executes text = effect sample new_session (Exec (input.Text text) [])

-- Returns the effect of an answer that changes nothing.
abbrev pub only : DriverAnswer → Effect
only answer = only_answered sample new_session answer

-- Returns the answer to a command that was carried out: no last id, and this many entries affected.
abbrev pub affected : ℕ → DriverAnswer
affected n = Result (pos 0) (pos n)

-- Returns the effect of a command that affected this many entries and left this map.
abbrev pub done : ℕ → Entries → Effect
done n store = only_answered store new_session (affected n)

pub record WorkedTexts : Type 0 where
  pub set_before_b : executes (codes "SET a 1") ≡ done 1 ((codes "a", Int (pos 1)) ∷ sample)
  pub set_at_b : (executes (codes "SET b Ann")).store ≡ with_value (codes "b") (Text (codes "Ann")) sample
  pub added : (executes (codes "ADD b -2")).store ≡ with_value (codes "b") (Int (pos 5)) sample
  pub added_to_none : executes (codes "ADD a 3") ≡ done 1 ((codes "a", Int (pos 3)) ∷ sample)
  pub added_to_text : executes (codes "ADD t 1") ≡ only not_a_number
  pub text_added : executes (codes "ADD b x") ≡ only not_a_number
  pub sum_too_large : executes (codes "ADD m 1") ≡ only out_of_range
  pub deleted : (executes (codes "DEL b")).answer ≡ affected 1
  pub deleted_is_not_there : value_at (codes "b") (executes (codes "DEL b")).store ≡ None
  pub deleted_none : executes (codes "DEL a") ≡ done 0 sample
  pub input_for_value : executes (codes "SET a ?") ≡ only Skip
  pub input_for_key : executes (codes "DEL ?") ≡ only Skip
  pub input_of_query : executes (codes "GET ?") ≡ only Skip
  pub query : executes (codes "GET b") ≡ only not_a_command
  pub list : executes (codes "LIST b") ≡ only not_a_command
  pub double_space : executes (codes "SET a  1") ≡ only no_such_statement
  pub third_word : executes (codes "DEL a b") ≡ only no_such_statement
  pub other_verb : executes (codes "PUT a 1") ≡ only no_such_statement

-- Returns the answers to calls, one after the other, on this map and in this session.
abbrev pub answers_from : Entries → MemSession → List DriverCall → List DriverAnswer
answers_from store session [] = []
answers_from store session (call ∷ calls) = let after = effect store session call in
    after.answer ∷ answers_from after.store after.session calls

-- Returns a session that can give one more handle and one more cursor.
abbrev pub almost_spent : MemSession
almost_spent =
    record {
      live = record { prepared = []; last_handle = 4294967294; cursors = []; last_cursor = 4294967294 };
      undo = None;
    }

-- Returns the call that executes a handle with these parameters. Their names are ignored.
abbrev pub exec : ℕ → List Param → DriverCall
exec handle params = Exec (input.Handle handle) params

-- Returns a parameter without a name. `named` returns one with a name.
abbrev pub unnamed : Value → Param
unnamed value = record { name = None; value = value }

abbrev pub named : List ℕ → Value → Param
named name value = record { name = Some name; value = value }

-- Returns the call that queries a text without parameters.
abbrev pub ask : List ℕ → DriverCall
ask text = Query (input.Text text) []

-- Holds if worked queries have these answers.
pub record WorkedQueries : Type 0 where
  -- A key that is there has one row, and one that isn't has none.
  pub get :
      answers_from sample new_session (ask (codes "GET b") ∷ Next 1 ∷ Next 1 ∷ Next 1 ∷ ask
      (codes "GET a") ∷ Next 2 ∷ [])
      ≡ Cursor 1 (codes "value" ∷ []) ∷ Row (Int (pos 7) ∷ []) ∷ End ∷ End ∷ Cursor 2 (codes "value" ∷ []) ∷ End ∷ []
  -- The keys with a prefix are listed in their order.
  pub list :
      answers_from ((codes "a", Nil) ∷ (codes "ab", Int (pos 1)) ∷ (codes "abc", Int (pos 2)) ∷
      (codes "b", Nil) ∷ []) new_session
      (ask (codes "LIST ab") ∷ Next 1 ∷ Next 1 ∷ Next 1 ∷ [])
      ≡ Cursor 1 (codes "key" ∷ codes "value" ∷ []) ∷ Row (Text (codes "ab") ∷ Int (pos 1) ∷ [])
      ∷ Row (Text (codes "abc") ∷ Int (pos 2) ∷ []) ∷ End ∷ []
  -- Until it is closed, a cursor shows what was there at its query, whatever is written later.
  pub moment :
      answers_from [] new_session
      (Exec (input.Text (codes "SET a 1")) [] ∷ ask (codes "GET a") ∷ Exec
      (input.Text (codes "DEL a")) [] ∷ Next 1 ∷ CloseRows 1
      ∷ Next 1 ∷ CloseRows 1 ∷ ask (codes "GET a") ∷ [])
      ≡ affected 1 ∷ Cursor 1 (codes "value" ∷ []) ∷ affected 1 ∷ Row (Int (pos 1) ∷ []) ∷ Done ∷ no_such_handle
      ∷ no_such_handle ∷ Cursor 2 (codes "value" ∷ []) ∷ []
  -- A prepared query takes its key from a parameter.
  pub prepared :
      answers_from sample new_session
      (Prepare (codes "GET ?") ∷ Query (input.Handle 1) (unnamed (Text (codes "t")) ∷ []) ∷ Next 1
      ∷ Query (input.Handle 1) (unnamed (Int (pos 1)) ∷ []) ∷ Query (input.Handle 1) [] ∷ Query
      (input.Handle 2) [] ∷ [])
      ≡ Prepared 1 (pos 1) ∷ Cursor 1 (codes "value" ∷ []) ∷ Row (Text (codes "Ann") ∷ []) ∷ key_is_not_text
      ∷ wrong_arguments ∷ no_such_handle ∷ []
  -- A command, a text with inputs, a text that is no statement, and a text with parameters are not queried.
  pub refused :
      answers_from sample new_session
      (ask (codes "DEL b") ∷ ask (codes "GET ?") ∷ ask (codes "GET") ∷ Query (input.Text (codes "GET b"))
      (unnamed Nil ∷ []) ∷ Next 1
      ∷ [])
      ≡ not_a_query ∷ Skip ∷ no_such_statement ∷ Skip ∷ no_such_handle ∷ []
  -- The numbers of cursors are spent.
  pub spent :
      answers_from [] almost_spent
      (ask (codes "LIST a") ∷ ask (codes "LIST a") ∷ Next 4294967295 ∷ [])
      ≡ Cursor 4294967295 (codes "key" ∷ codes "value" ∷ []) ∷ numbers_spent ∷ End ∷ []

-- Returns the call that executes a text without parameters. `begin` is a Begin.
abbrev pub tell : List ℕ → DriverCall
tell text = Exec (input.Text text) []

abbrev pub begin : DriverCall
begin = Begin Default false

-- Holds if worked transactions have these answers.
pub record WorkedTransactions : Type 0 where
  -- A key that was written twice has its first value again, one that was added is gone, and one that was
  -- deleted is back.
  pub rolled_back :
      answers_from sample new_session
      (begin ∷ tell (codes "SET b 1") ∷ tell (codes "SET b 2") ∷ tell (codes "SET a 3") ∷ tell
      (codes "DEL t") ∷ Rollback
      ∷ ask (codes "GET b") ∷ Next 1 ∷ ask (codes "GET a") ∷ Next 2 ∷ ask (codes "GET t") ∷ Next 3 ∷ [])
      ≡ Done ∷ affected 1 ∷ affected 1 ∷ affected 1 ∷ affected 1 ∷ Done ∷ Cursor 1 (codes "value" ∷ []) ∷ Row
      (Int (pos 7) ∷ [])
      ∷ Cursor 2 (codes "value" ∷ []) ∷ End ∷ Cursor 3 (codes "value" ∷ []) ∷ Row (Text (codes "Ann") ∷ []) ∷ []
  -- What was committed stays.
  pub committed :
      answers_from [] new_session (begin ∷ tell (codes "SET a 1") ∷ Commit ∷ Rollback ∷ ask
      (codes "GET a") ∷ Next 1 ∷ [])
      ≡ Done ∷ affected 1 ∷ Done ∷ no_transaction ∷ Cursor 1 (codes "value" ∷ []) ∷ Row (Int (pos 1) ∷ []) ∷ []
  -- A Begin fails in a transaction, and leaves it open.
  pub begun_twice :
      answers_from [] new_session (Commit ∷ begin ∷ begin ∷ Rollback ∷ Rollback ∷ [])
      ≡ no_transaction ∷ Done ∷ in_transaction ∷ Done ∷ no_transaction ∷ []
  -- A Reset rolls back, and leaves handles and cursors as they are.
  pub reset :
      answers_from [] new_session
      (Prepare (codes "GET a") ∷ begin ∷ tell (codes "SET a 1") ∷ Query (input.Handle 1) [] ∷ Reset ∷ Commit ∷ Next 1
      ∷ Query (input.Handle 1) [] ∷ Next 2 ∷ [])
      ≡ Prepared 1 (pos 0) ∷ Done ∷ affected 1 ∷ Cursor 1 (codes "value" ∷ []) ∷ Done ∷ no_transaction ∷ Row
      (Int (pos 1) ∷ [])
      ∷ Cursor 2 (codes "value" ∷ []) ∷ End ∷ []

pub record WorkedHandles : Type 0 where
  -- The parameters are taken in order.
  pub by_order :
      answers_from [] new_session
      (Prepare (codes "SET ? ?") ∷ exec 1 (unnamed (Text (codes "a")) ∷ unnamed (Int (pos 5)) ∷ [])
      ∷ exec 1 (unnamed (Int (pos 5)) ∷ unnamed (Text (codes "a")) ∷ [])
      ∷ exec 1 (named (codes "value") (Text (codes "b")) ∷ named (codes "key") Nil ∷ []) ∷ [])
      ≡ Prepared 1 (pos 2) ∷ affected 1 ∷ key_is_not_text ∷ affected 1 ∷ []
  -- A closed handle is gone, and its number isn't given again.
  pub closed :
      answers_from [] new_session
      (exec 1 [] ∷ Prepare (codes "DEL a") ∷ exec 1 [] ∷ CloseStmt 1 ∷ exec 1 [] ∷ CloseStmt 1
      ∷ Prepare (codes "DEL a") ∷ [])
      ≡ no_such_handle ∷ Prepared 1 (pos 0) ∷ affected 0 ∷ Done ∷ no_such_handle ∷ no_such_handle
      ∷ Prepared 2 (pos 0) ∷ []
  -- A value grows by an input.
  pub grows :
      answers_from [] new_session
      (Prepare (codes "ADD a ?") ∷ exec 1 (unnamed (Int (pos 2)) ∷ []) ∷ exec 1 (unnamed (Int (negsuc 4)) ∷ [])
      ∷ exec 1 (unnamed (Text (codes "2")) ∷ []) ∷ exec 1 (unnamed Nil ∷ []) ∷ exec 1 [] ∷ [])
      ≡ Prepared 1 (pos 1) ∷ affected 1 ∷ affected 1 ∷ not_a_number ∷ not_a_number ∷ wrong_arguments ∷ []
  -- A query isn't executed, and a command isn't queried.
  pub wrong_way :
      answers_from [] new_session
      (Prepare (codes "GET ?") ∷ exec 1 [] ∷ Prepare (codes "SET a 1") ∷ Query (input.Handle 2) []
      ∷ Query (input.Text (codes "SET a 1")) [] ∷ [])
      ≡ Prepared 1 (pos 1) ∷ not_a_command ∷ Prepared 2 (pos 0) ∷ not_a_query ∷ not_a_query ∷ []
  -- The driver skips a text with parameters, whatever the text is.
  pub passed_on :
      answers_from [] new_session
      (Exec (input.Text (codes "SET a 1")) (unnamed Nil ∷ []) ∷ Exec (input.Text []) (unnamed Nil ∷ []) ∷ [])
      ≡ Skip ∷ Skip ∷ []
  -- The numbers of handles are spent.
  pub spent :
      answers_from [] almost_spent
      (Prepare (codes "DEL a") ∷ Prepare (codes "DEL a") ∷ Prepare (codes "DEL") ∷ [])
      ≡ Prepared 4294967295 (pos 0) ∷ numbers_spent ∷ no_such_statement ∷ []
