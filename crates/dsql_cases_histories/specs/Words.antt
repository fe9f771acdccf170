-- Defines abbreviations for the worked histories.
use Rattle.std.specs.Prelude.{List, [], ◌∷◌, ℕ, true, false, pos, codes}
use Rattle.dsql_history.specs.value.declared.value.Value.TheVariants as values
use Rattle.dsql_history.specs.driver.declared.call.DriverCall.{DriverCall}
use Rattle.dsql_history.specs.driver.declared.call.DriverCall.TheVariants as calls
use Rattle.dsql_history.specs.driver.declared.call.Input.{Input}
use Rattle.dsql_history.specs.driver.declared.call.Input.TheVariants.{Text, Handle}
use Rattle.dsql_history.specs.driver.declared.call.Level.TheVariants as levels
use Rattle.dsql_history.specs.driver.declared.answer.DriverAnswer.{DriverAnswer}
use Rattle.dsql_history.specs.driver.declared.answer.DriverAnswer.TheVariants as answers
use Rattle.dsql_history.specs.journal.declared.entry.Owner.TheVariants.{Call, House}
use Rattle.dsql_history.specs.journal.declared.entry.Owner.TheVariants as owners
use Rattle.dsql_history.specs.pool.declared.moves.CloseCause.{CloseCause}
use Rattle.dsql_history.specs.pool.declared.moves.Move.TheVariants.{OpenStart, Lend, Back, CloseStart, Gone, Fell}
use Rattle.dsql_history.specs.works.Caps.{all_caps}
use Rattle.dsql_history.specs.declared.event.Event.{Event}
use Rattle.dsql_history.specs.declared.event.Event.TheVariants.{Run, Entered, Heard, Pool}
use Rattle.dsql_history.specs.declared.event.Op.TheVariants as ops
use Rattle.dsql_history.specs.declared.event.Target.{Target}
use Rattle.dsql_history.specs.declared.event.Target.TheVariants as targets
use Rattle.dsql_history.specs.declared.reply.Reply.{Reply}
use Rattle.dsql_history.specs.declared.reply.Reply.TheVariants as replies

-- Returns the begin of a run with the driver in memory.
abbrev pub run : Event
run = Run 1 all_caps

-- Returns the begin of a run whose driver can neither test nor reset, and accepts no options of transactions.
abbrev pub run_plain : Event
run_plain =
    Run 1 (record {
      fast_exec = true;
      fast_query = true;
      begin_options = false;
      named = false;
      pinger = false;
      resetter = false;
      validator = false;
    })

-- The labels of two transactions.
abbrev pub x : List ℕ
x = codes "x"

abbrev pub y : List ℕ
y = codes "y"

-- The labels of rows.
abbrev pub r : List ℕ
r = codes "r"

abbrev pub s : List ℕ
s = codes "s"

abbrev pub text : List ℕ
text = codes "SET a 1"

abbrev pub rows_text : List ℕ
rows_text = codes "LIST a"

abbrev pub columns : List (List ℕ)
columns = codes "key" ∷ []

-- Driver calls, answers and replies.

abbrev pub exec : DriverCall
exec = calls.Exec (Text text) []

abbrev pub query : DriverCall
query = calls.Query (Text rows_text) []

abbrev pub begin : DriverCall
begin = calls.Begin levels.Default false

abbrev pub one_changed : DriverAnswer
one_changed = answers.Result (pos 0) (pos 1)

abbrev pub told_one_changed : Reply
told_one_changed = replies.Result (pos 0) (pos 1)

abbrev pub cursor : ℕ → DriverAnswer
cursor number = answers.Cursor number columns

abbrev pub row : DriverAnswer
row = answers.Row (values.Text (codes "a") ∷ [])

-- Client k's call n.

abbrev pub begins_with : ℕ → ℕ → List ℕ → Event
begins_with k n label = Entered k n (ops.Begin label levels.Snapshot true)

abbrev pub begins_to_read : ℕ → ℕ → List ℕ → Event
begins_to_read k n label = Entered k n (ops.Begin label levels.Default true)

abbrev pub begins : ℕ → ℕ → List ℕ → Event
begins k n label = Entered k n (ops.Begin label levels.Default false)

abbrev pub executes_on : Target → ℕ → ℕ → Event
executes_on target k n = Entered k n (ops.Exec target text [])

-- Returns the entry of an exec on the database.
abbrev pub executes : ℕ → ℕ → Event
executes k n = executes_on targets.Db k n

-- Returns the entry of an exec in the transaction with this label.
abbrev pub executes_in : List ℕ → ℕ → ℕ → Event
executes_in tx k n = executes_on (targets.Label tx) k n

abbrev pub queries_in : List ℕ → ℕ → ℕ → List ℕ → Event
queries_in tx k n label = Entered k n (ops.Query label (targets.Label tx) rows_text [])

abbrev pub fetches : ℕ → ℕ → List ℕ → Event
fetches k n label = Entered k n (ops.Next label)

abbrev pub closes : ℕ → ℕ → List ℕ → Event
closes k n label = Entered k n (ops.RowsClose label)

abbrev pub commits : ℕ → ℕ → List ℕ → Event
commits k n tx = Entered k n (ops.Commit tx)

abbrev pub rolls_back : ℕ → ℕ → List ℕ → Event
rolls_back k n tx = Entered k n (ops.Rollback tx)

abbrev pub closes_db : ℕ → ℕ → Event
closes_db k n = Entered k n ops.DbClose

abbrev pub pings : ℕ → ℕ → Event
pings k n = Entered k n ops.Ping

abbrev pub asks_for_stats : ℕ → ℕ → Event
asks_for_stats k n = Entered k n ops.Stats

-- Moves of connections, and answers on them.

abbrev pub fell : ℕ → ℕ → Event
fell c n = Pool (Fell c n)

abbrev pub open_start : ℕ → ℕ → Event
open_start c n = Pool (OpenStart c n)

abbrev pub lend_tx : ℕ → ℕ → ℕ → Event
lend_tx c t n = Pool (Lend c t (owners.Tx n) n)

abbrev pub lend : ℕ → ℕ → ℕ → Event
lend c t n = Pool (Lend c t (Call n) n)

abbrev pub back : ℕ → Event
back c = Pool (Back c)

abbrev pub close : ℕ → CloseCause → Event
close c cause = Pool (CloseStart c cause)

abbrev pub gone : ℕ → Event
gone c = Pool (Gone c)

-- Returns the answer to a driver call of the layer's, in a tenure of its own.
abbrev pub house : ℕ → ℕ → DriverCall → DriverAnswer → Event
house c t call answer =
    Heard (record { conn = c; tenure = t; owner = House; call_no = 0; tx = 0; call = call; answer = answer })

-- Returns the answer to call m in tenure t of connection c, which is lent to transaction k. If m is 0, the call is the
-- layer's own.
abbrev pub within : ℕ → ℕ → ℕ → ℕ → DriverCall → DriverAnswer → Event
within c t k m call answer =
    Heard (record { conn = c; tenure = t; owner = owners.Tx k; call_no = m; tx = k; call = call; answer = answer })

-- Returns the same for a driver call that isn't one of the transaction: a Reset, a test, or a Begin that isn't
-- done.
abbrev pub beside : ℕ → ℕ → ℕ → ℕ → DriverCall → DriverAnswer → Event
beside c t k m call answer =
    Heard (record { conn = c; tenure = t; owner = owners.Tx k; call_no = m; tx = 0; call = call; answer = answer })

-- The handle that a Prepare of a text gave, and the answer to that Prepare, with no inputs.
abbrev pub handle : Input
handle = Handle 1

abbrev pub prepared : DriverAnswer
prepared = answers.Prepared 1 (pos 0)

-- Returns the answer to call n on the database, in tenure t of connection c.
abbrev pub called : ℕ → ℕ → ℕ → DriverCall → DriverAnswer → Event
called c t n call answer =
    Heard (record { conn = c; tenure = t; owner = Call n; call_no = n; tx = 0; call = call; answer = answer })
