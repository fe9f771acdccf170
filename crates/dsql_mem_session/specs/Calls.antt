-- The outcomes of commands and queries on a map, and how a call that concerns the session alone changes it and
-- is answered.
use Rattle.std.specs.Prelude.{ℕ, ℤ, pos, ◌+ℤ◌, ◌==◌, nat_lt, List, [], length, Option, Some, None, is_some, codes, if◌then◌else◌}
use Rattle.std.specs.Option.{option_map_or}
use Rattle.dsql_driver.specs.declared.answer.DriverAnswer.{DriverAnswer}
use Rattle.dsql_driver.specs.declared.answer.DriverAnswer.TheVariants.{Done, Skip, Fail}
use Rattle.dsql_driver.specs.declared.call.Input.{Input}
use Rattle.dsql_driver.specs.declared.call.Input.TheVariants as input
use Rattle.dsql_value.specs.declared.value.Param.{Param}
use Rattle.dsql_value.specs.declared.value.Value.{Value}
use Rattle.dsql_value.specs.declared.value.Value.TheVariants.{Int}
use Rattle.dsql_driver_session.specs.Calls.{Kept, handle_given, opened}
use Rattle.dsql_driver_session.specs.Session.{SessionState, text_of}
use Rattle.dsql_mem_store.specs.Entries.{Entries, value_at, entry_at, listed}
use Rattle.dsql_mem_store.specs.declared.note.Note.{Note}
use Rattle.dsql_mem_session.specs.Filled.{left_after, key_for, value_for}
use Rattle.dsql_mem_session.specs.Number.{fits_i64}
use Rattle.dsql_mem_session.specs.Shape.{result_set}
use Rattle.dsql_mem_session.specs.Statement.{Statement, Set, Add, Del, Get, ListKeys, statement_of, inputs_of, is_query}
use Rattle.dsql_mem_session.specs.declared.shape.Shape.TheVariants as shape
use Rattle.dsql_mem_session.specs.declared.execute.Outcome.{Outcome}
use Rattle.dsql_mem_session.specs.declared.execute.Outcome.TheVariants.{Write}
use Rattle.dsql_mem_session.specs.declared.execute.Outcome.TheVariants as outcome
use Rattle.dsql_mem_session.specs.declared.query.Found.{Found}
use Rattle.dsql_mem_session.specs.declared.query.Found.TheVariants.{Rows, Refused}

abbrev pub no_such_handle : DriverAnswer
no_such_handle = Fail (codes "mem: no such handle")

abbrev pub no_such_statement : DriverAnswer
no_such_statement = Fail (codes "mem: no such statement")

abbrev pub not_a_command : DriverAnswer
not_a_command = Fail (codes "mem: not a command")

abbrev pub not_a_query : DriverAnswer
not_a_query = Fail (codes "mem: not a query")

abbrev pub wrong_arguments : DriverAnswer
wrong_arguments = Fail (codes "mem: arguments")

abbrev pub key_is_not_text : DriverAnswer
key_is_not_text = Fail (codes "mem: key is not text")

abbrev pub not_a_number : DriverAnswer
not_a_number = Fail (codes "mem: not a number")

abbrev pub out_of_range : DriverAnswer
out_of_range = Fail (codes "mem: out of range")

abbrev pub in_transaction : DriverAnswer
in_transaction = Fail (codes "mem: in transaction")

abbrev pub no_transaction : DriverAnswer
no_transaction = Fail (codes "mem: no transaction")

abbrev pub numbers_spent : DriverAnswer
numbers_spent = Fail (codes "mem: numbers spent")

-- Returns the number of a key with this value, if it has one. It is 0 if the key isn't there.
abbrev pub number_in : Option Value → Option ℤ
number_in None = Some (pos 0)
number_in (Some (Int number)) = Some number
number_in (Some _) = None

-- Returns the outcome that a key gets this sum, if it fits an i64, or a refusal.
abbrev pub summed : List ℕ → ℤ → Outcome
summed key sum = if fits_i64 sum then Write key (Some (Int sum)) (pos 1) else outcome.Refused out_of_range

-- Returns the outcome of adding a value to a key's number.
abbrev pub added : Entries → List ℕ → Value → Outcome
added store key (Int by) =
    option_map_or (λ number. summed key (number +ℤ by)) (number_in (value_at key store)) (outcome.Refused not_a_number)
added store key _ = outcome.Refused not_a_number

-- Returns the outcome of deleting a key.
abbrev pub deleted : Entries → List ℕ → Outcome
deleted store key = Write key None (if is_some (value_at key store) then pos 1 else pos 0)

-- Returns the outcome of a command that has as many parameters as inputs.
abbrev pub commanded : Entries → Statement → List Param → Outcome
commanded store (Set key value) params =
    option_map_or (λ k. Write k (Some (value_for value (left_after key params))) (pos 1)) (key_for key params)
    (outcome.Refused key_is_not_text)
commanded store (Add key value) params =
    option_map_or (λ k. added store k (value_for value (left_after key params))) (key_for key params)
    (outcome.Refused key_is_not_text)
commanded store (Del key) params =
    option_map_or (λ k. deleted store k) (key_for key params) (outcome.Refused key_is_not_text)
commanded store _ params = outcome.Refused not_a_command

-- Returns the outcome of executing a statement.
abbrev pub executed : Entries → Statement → List Param → Outcome
executed store statement params =
    if is_query statement then outcome.Refused not_a_command
    else (if length params == inputs_of statement then commanded store statement params else outcome.Refused
    wrong_arguments)

-- Returns the outcome of executing a prepared text.
abbrev pub executed_prepared : Entries → Option Statement → List Param → Outcome
executed_prepared store None params = outcome.Refused no_such_statement
executed_prepared store (Some statement) params = executed store statement params

-- Returns the outcome of executing a text without parameters. A text with inputs must be prepared first.
abbrev pub executed_text : Entries → Option Statement → Outcome
executed_text store None = outcome.Refused no_such_statement
executed_text store (Some statement) =
    if nat_lt 0 (inputs_of statement) then outcome.Refused Skip else executed store statement []

-- Returns the outcome of a command in a session.
abbrev pub executed_in : Entries → SessionState → Input → List Param → Outcome
executed_in store session (input.Text text) params =
    if nat_lt 0 (length params) then outcome.Refused Skip else executed_text store (statement_of text)
executed_in store session (input.Handle handle) params =
    option_map_or (λ text. executed_prepared store (statement_of text) params) (text_of handle session)
    (outcome.Refused no_such_handle)

-- Returns what a query finds that has as many parameters as inputs.
abbrev pub found : Entries → Statement → List Param → Found
found store (Get key) params =
    option_map_or (λ k. Rows (result_set shape.Values (entry_at k store))) (key_for key params)
    (Refused key_is_not_text)
found store (ListKeys prefix) params =
    option_map_or (λ p. Rows (result_set shape.Entries (listed p store))) (key_for prefix params)
    (Refused key_is_not_text)
found store _ params = Refused not_a_query

-- Returns what querying a statement finds.
abbrev pub queried : Entries → Statement → List Param → Found
queried store statement params =
    if is_query statement then
    (if length params == inputs_of statement then found store statement params else Refused wrong_arguments)
    else Refused not_a_query

-- Returns what querying a prepared text finds.
abbrev pub queried_prepared : Entries → Option Statement → List Param → Found
queried_prepared store None params = Refused no_such_statement
queried_prepared store (Some statement) params = queried store statement params

-- Returns what querying a text without parameters finds. A text with inputs must be prepared first.
abbrev pub queried_text : Entries → Option Statement → Found
queried_text store None = Refused no_such_statement
queried_text store (Some statement) =
    if nat_lt 0 (inputs_of statement) then Refused Skip else queried store statement []

-- Returns what a query finds in a session.
abbrev pub queried_in : Entries → SessionState → Input → List Param → Found
queried_in store session (input.Text text) params =
    if nat_lt 0 (length params) then Refused Skip else queried_text store (statement_of text)
queried_in store session (input.Handle handle) params =
    option_map_or (λ text. queried_prepared store (statement_of text) params) (text_of handle session)
    (Refused no_such_handle)

-- Returns the session after a text was prepared, with the answer.
abbrev pub prepared : SessionState → List ℕ → Option Statement → Kept
prepared session text None = (session, no_such_statement)
prepared session text (Some statement) = handle_given session text (inputs_of statement) numbers_spent

-- Returns the session and the answer after a query. A cursor shows what the query found, or the answer is its
-- refusal.
abbrev pub shown : SessionState → Found → Kept
shown session (Rows set) = opened session set numbers_spent
shown session (Refused answer) = (session, answer)

-- Returns the notes after a transaction began, with the answer.
abbrev pub begun : Option (List Note) → Option (List Note) × DriverAnswer
begun undo = if is_some undo then (undo, in_transaction) else (Some [], Done)

-- Returns the notes after a transaction ended and left what it wrote, with the answer.
abbrev pub committed : Option (List Note) → Option (List Note) × DriverAnswer
committed undo = if is_some undo then (None, Done) else (undo, no_transaction)
