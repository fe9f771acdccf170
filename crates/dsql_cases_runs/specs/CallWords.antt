-- The words in which the example runs are written.
use Rattle.std.specs.Prelude.{ℕ, List, [], pos, codes, reverse}
use Rattle.dsql_history.specs.driver.declared.call.DriverCall.TheVariants.{Connect, Reset, Valid, CloseRows, Shut}
use Rattle.dsql_history.specs.driver.declared.answer.DriverAnswer.TheVariants as answers
use Rattle.dsql_history.specs.declared.event.Event.{Event}
use Rattle.dsql_history.specs.declared.event.Event.TheVariants.{Replied}
use Rattle.dsql_history.specs.declared.event.Op.TheVariants as ops
use Rattle.dsql_history.specs.declared.event.Target.TheVariants as targets
use Rattle.dsql_history.specs.declared.event.Setting.TheVariants.{MaxOpen}
use Rattle.dsql_history.specs.declared.event.Control.TheVariants.{Set, Tick}
use Rattle.dsql_cases_histories.specs.CallWords.{run, exec, one_changed, told_one_changed, rows_text, house, sent}
use Rattle.dsql_follows.specs.declared.line.Line.{Line}
use Rattle.dsql_follows.specs.declared.line.Line.TheVariants as lines
use Rattle.dsql_follows.specs.declared.line.Line.TheVariants.{Client, Start}
use Rattle.dsql_follows.specs.Sentences.{Part}
use Rattle.dsql_follows.specs.Follows.{Played}

abbrev pub set_a : List ℕ
set_a = codes "SET a 1"

abbrev pub set_b : List ℕ
set_b = codes "SET b 2"

abbrev pub set_c : List ℕ
set_c = codes "SET c 3"

abbrev pub set_d : List ℕ
set_d = codes "SET d 4"

abbrev pub r : List ℕ
r = codes "r"

-- Lines.

abbrev pub limits : ℕ → Line
limits n = lines.Control (Set MaxOpen (pos n))

abbrev pub ticks : ℕ → Line
ticks now = lines.Control (Tick now)

abbrev pub calls_exec : ℕ → List ℕ → Line
calls_exec client it = Client client (ops.Exec targets.Db it [])

abbrev pub calls_query : ℕ → List ℕ → Line
calls_query client label = Client client (ops.Query label targets.Db rows_text [])

abbrev pub calls_next : ℕ → List ℕ → Line
calls_next client label = Client client (ops.Next label)

abbrev pub calls_close : ℕ → List ℕ → Line
calls_close client label = Client client (ops.RowsClose label)

abbrev pub calls_stats : ℕ → Line
calls_stats client = Client client ops.Stats

abbrev pub calls_db_close : ℕ → Line
calls_db_close client = Client client ops.DbClose

abbrev pub starts_exec : ℕ → List ℕ → Line
starts_exec client it = Start client (ops.Exec targets.Db it [])

abbrev pub starts_next : ℕ → List ℕ → Line
starts_next client label = Start client (ops.Next label)

abbrev pub starts_stats : ℕ → Line
starts_stats client = Start client ops.Stats

-- Events.

abbrev pub connects : ℕ → Event
connects c = house c 1 Connect answers.Done

abbrev pub shuts : ℕ → ℕ → Event
shuts c t = house c t Shut answers.Done

-- Returns the entry of call n's `Reset` on connection c, which is lent to call n in tenure t. `runs` and
-- `tests` are the entries for a text and for the test.
abbrev pub resets : ℕ → ℕ → ℕ → Event
resets c t n = sent c t n n Reset answers.Done

abbrev pub runs : ℕ → ℕ → ℕ → List ℕ → Event
runs c t n it = sent c t n n (exec it) one_changed

abbrev pub tests : ℕ → ℕ → ℕ → Event
tests c t n = sent c t n n Valid answers.Done

-- Returns the entry of call m's `CloseRows` on connection c, which is lent to call n in tenure t. `tests_after`
-- is the entry for the test.
abbrev pub closes_rows : ℕ → ℕ → ℕ → ℕ → Event
closes_rows c t n m = sent c t n m (CloseRows 1) answers.Done

abbrev pub tests_after : ℕ → ℕ → ℕ → ℕ → Event
tests_after c t n m = sent c t n m Valid answers.Done

-- Returns the event in which call n replies that its text was executed.
abbrev pub is_told : ℕ → Event
is_told n = Replied n told_one_changed

-- Runs.

-- Returns the part of a line with these events, oldest first.
abbrev pub part : Line → List Event → Part
part line events = record { line = line; events = reverse events }

-- Returns the run with these parts and these events of the end's part, oldest first.
abbrev pub played : List Part → List Event → Played
played parts last = record { run = run; parts = reverse parts; last = reverse last }
