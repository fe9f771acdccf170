-- The words in which the example runs are written.
use Rattle.std.specs.Prelude.{ℕ, List, [], ◌∷◌, false, pos, reverse}
use Rattle.dsql_history.specs.driver.declared.call.DriverCall.TheVariants.{Connect, Valid, Shut}
use Rattle.dsql_history.specs.driver.declared.call.DriverCall.TheVariants as calls
use Rattle.dsql_history.specs.driver.declared.call.Level.TheVariants.{Default}
use Rattle.dsql_history.specs.driver.declared.answer.DriverAnswer.TheVariants.{Done}
use Rattle.dsql_history.specs.declared.event.Setting.TheVariants.{MaxOpen}
use Rattle.dsql_history.specs.declared.event.Control.TheVariants.{Set}
use Rattle.dsql_history.specs.declared.event.Event.{Event}
use Rattle.dsql_history.specs.declared.event.Event.TheVariants.{SetLimit, Replied}
use Rattle.dsql_history.specs.declared.event.Op.{Op}
use Rattle.dsql_history.specs.declared.event.Op.TheVariants as ops
use Rattle.dsql_history.specs.declared.event.Target.TheVariants as targets
use Rattle.dsql_history.specs.declared.reply.Reply.TheVariants as replies
use Rattle.dsql_cases_histories.specs.Words.{run, text, rows_text, begin, told_one_changed, begins, open_start, lend_tx, house, within, beside}
use Rattle.dsql_follows.specs.declared.line.Line.{Line}
use Rattle.dsql_follows.specs.declared.line.Line.TheVariants as lines
use Rattle.dsql_follows.specs.declared.line.Line.TheVariants.{Client, Start}
use Rattle.dsql_follows.specs.Sentences.{Part}
use Rattle.dsql_follows.specs.Follows.{Played}

-- Lines.

abbrev pub limits : ℕ → Line
limits n = lines.Control (Set MaxOpen (pos n))

abbrev pub calls_begin : ℕ → List ℕ → Line
calls_begin client label = Client client (ops.Begin label Default false)

abbrev pub calls_exec : ℕ → Line
calls_exec client = Client client (ops.Exec targets.Db text [])

-- Returns the exec of the text in the transaction of this label.
abbrev pub execs_in : List ℕ → Op
execs_in tx = ops.Exec (targets.Label tx) text []

abbrev pub calls_exec_in : ℕ → List ℕ → Line
calls_exec_in client tx = Client client (execs_in tx)

abbrev pub starts_exec_in : ℕ → List ℕ → Line
starts_exec_in client tx = Start client (execs_in tx)

abbrev pub calls_query_in : ℕ → List ℕ → List ℕ → Line
calls_query_in client label tx = Client client (ops.Query label (targets.Label tx) rows_text [])

abbrev pub starts_next : ℕ → List ℕ → Line
starts_next client label = Start client (ops.Next label)

abbrev pub calls_commit : ℕ → List ℕ → Line
calls_commit client tx = Client client (ops.Commit tx)

abbrev pub starts_commit : ℕ → List ℕ → Line
starts_commit client tx = Start client (ops.Commit tx)

abbrev pub calls_rollback : ℕ → List ℕ → Line
calls_rollback client tx = Client client (ops.Rollback tx)

-- Events.

abbrev pub sets_open : ℕ → Event
sets_open n = SetLimit MaxOpen (pos n)

abbrev pub connects : ℕ → Event
connects c = house c 1 Connect Done

abbrev pub shuts : ℕ → ℕ → Event
shuts c t = house c t Shut Done

-- In the events below, transaction k is begun on connection c, which is lent to it in tenure t. Call m ends it
-- there, or the layer if m is 0, and the end tests the connection.

abbrev pub begun : ℕ → ℕ → ℕ → Event
begun c t k = within c t k k begin Done

abbrev pub committed : ℕ → ℕ → ℕ → ℕ → Event
committed c t k m = within c t k m calls.Commit Done

abbrev pub rolled_back : ℕ → ℕ → ℕ → ℕ → Event
rolled_back c t k m = within c t k m calls.Rollback Done

abbrev pub tests : ℕ → ℕ → ℕ → ℕ → Event
tests c t k m = beside c t k m Valid Done

-- Returns the event in which call n replies `Ok`. In `is_told` it replies that its text was executed.
abbrev pub is_done : ℕ → Event
is_done n = Replied n replies.Ok

abbrev pub is_told : ℕ → Event
is_told n = Replied n told_one_changed

-- Returns the events in which client 1's call 1 begins the run's first transaction under this label, on a new
-- connection.
abbrev pub begins_first : List ℕ → List Event
begins_first label =
    begins 1 1 label
    ∷ open_start 1 1
    ∷ connects 1
    ∷ lend_tx 1 2 1
    ∷ begun 1 2 1
    ∷ is_done 1
    ∷ []

-- Runs.

-- Returns the part of a line with these events, oldest first.
abbrev pub part : Line → List Event → Part
part line events = record { line = line; events = reverse events }

-- Returns the run with these parts and these events of the end's part, oldest first.
abbrev pub played : List Part → List Event → Played
played parts last = record { run = run; parts = reverse parts; last = reverse last }
