-- The words in which the example histories are written.
use Rattle.std.specs.Prelude.{List, [], ◌∷◌, ℕ, None, true, false, pos, codes}
use Rattle.dsql_history.specs.value.declared.value.Value.TheVariants.{Text as text_value}
use Rattle.dsql_history.specs.value.declared.arg.Named.{Named}
use Rattle.dsql_history.specs.value.declared.arg.Arg.TheVariants as arg
use Rattle.dsql_history.specs.scan.declared.dest.Dest.{Dest}
use Rattle.dsql_history.specs.scan.declared.dest.Dest.TheVariants as dests
use Rattle.dsql_history.specs.driver.declared.call.DriverCall.{DriverCall}
use Rattle.dsql_history.specs.driver.declared.call.DriverCall.TheVariants.{Exec, Query}
use Rattle.dsql_history.specs.driver.declared.call.Input.TheVariants.{Text}
use Rattle.dsql_history.specs.driver.declared.answer.DriverAnswer.{DriverAnswer}
use Rattle.dsql_history.specs.driver.declared.answer.DriverAnswer.TheVariants as answers
use Rattle.dsql_history.specs.journal.declared.entry.Owner.TheVariants.{Call, House}
use Rattle.dsql_history.specs.pool.declared.moves.CloseCause.{CloseCause}
use Rattle.dsql_history.specs.pool.declared.moves.Move.TheVariants.{OpenStart, Lend, Back, CloseStart, Gone, Fell}
use Rattle.dsql_history.specs.works.Caps.{all_caps}
use Rattle.dsql_history.specs.declared.event.Event.{Event}
use Rattle.dsql_history.specs.declared.event.Event.TheVariants.{Run, Entered, Heard, Pool, Ticked, SetLimit}
use Rattle.dsql_history.specs.declared.event.Op.TheVariants as ops
use Rattle.dsql_history.specs.declared.event.Target.TheVariants as targets
use Rattle.dsql_history.specs.declared.event.Setting.TheVariants.{MaxOpen, MaxIdle, MaxLife, MaxIdleTime}
use Rattle.dsql_history.specs.declared.reply.Reply.{Reply}
use Rattle.dsql_history.specs.declared.reply.Reply.TheVariants as replies

-- A run of the driver in memory.
abbrev pub run : Event
run = Run 1 all_caps

-- A run of a driver that can neither test nor reset.
abbrev pub run_untested : Event
run_untested =
    Run 1 (record {
      fast_exec = true;
      fast_query = true;
      begin_options = false;
      named = false;
      pinger = false;
      resetter = false;
      validator = false;
    })

-- A run of a driver that can neither test nor reset, and can't query a text at once.
abbrev pub run_preparing : Event
run_preparing =
    Run 1 (record {
      fast_exec = true;
      fast_query = false;
      begin_options = false;
      named = false;
      pinger = false;
      resetter = false;
      validator = false;
    })

-- A run of a driver that can test and reset, but can't ping.
abbrev pub run_pingless : Event
run_pingless = Run 1 (record all_caps { pinger = false })

abbrev pub text : List ℕ
text = codes "SET a 1"

abbrev pub rows_text : List ℕ
rows_text = codes "LIST a"

abbrev pub exec : List ℕ → DriverCall
exec it = Exec (Text it) []

abbrev pub query_of : List ℕ → DriverCall
query_of it = Query (Text it) []

abbrev pub query : DriverCall
query = query_of rows_text

abbrev pub columns : List (List ℕ)
columns = codes "key" ∷ []

abbrev pub cursor : DriverAnswer
cursor = answers.Cursor 1 columns

abbrev pub row : List ℕ → DriverAnswer
row value = answers.Row (text_value value ∷ [])

-- The driver's answer that one row was changed.
abbrev pub one_changed : DriverAnswer
one_changed = answers.Result (pos 0) (pos 1)

abbrev pub told_one_changed : Reply
told_one_changed = replies.Result (pos 0) (pos 1)

-- A list with one argument, which no driver takes.
abbrev pub too_great : List Named
too_great = record { name = None; arg = arg.U64 9223372036854775808 } ∷ []

-- Returns the event in which client k enters call n, an exec of the text.
abbrev pub enters_exec : ℕ → ℕ → List ℕ → Event
enters_exec k n it = Entered k n (ops.Exec targets.Db it [])

abbrev pub executes : ℕ → ℕ → Event
executes k n = enters_exec k n text

abbrev pub executes_with : ℕ → ℕ → List Named → Event
executes_with k n args = Entered k n (ops.Exec targets.Db text args)

abbrev pub queries_for : ℕ → ℕ → List ℕ → List ℕ → Event
queries_for k n label it = Entered k n (ops.Query label targets.Db it [])

abbrev pub queries : ℕ → ℕ → List ℕ → Event
queries k n label = queries_for k n label rows_text

abbrev pub reads_into : ℕ → ℕ → List Dest → List ℕ → Event
reads_into k n into it = Entered k n (ops.One targets.Db into it [])

abbrev pub reads_one : ℕ → ℕ → Event
reads_one k n = reads_into k n (dests.Any ∷ []) (codes "GET a")

abbrev pub fetches : ℕ → ℕ → List ℕ → Event
fetches k n label = Entered k n (ops.Next label)

abbrev pub closes : ℕ → ℕ → List ℕ → Event
closes k n label = Entered k n (ops.RowsClose label)

abbrev pub scans_into : ℕ → ℕ → List ℕ → List Dest → Event
scans_into k n label into = Entered k n (ops.Scan label into)

abbrev pub scans : ℕ → ℕ → List ℕ → Event
scans k n label = scans_into k n label (dests.Any ∷ [])

abbrev pub asks_for_fault : ℕ → ℕ → List ℕ → Event
asks_for_fault k n label = Entered k n (ops.Err label)

abbrev pub pings : ℕ → ℕ → Event
pings k n = Entered k n ops.Ping

abbrev pub asks_for_stats : ℕ → ℕ → Event
asks_for_stats k n = Entered k n ops.Stats

abbrev pub closes_db : ℕ → ℕ → Event
closes_db k n = Entered k n ops.DbClose

abbrev pub sets_open : ℕ → Event
sets_open n = SetLimit MaxOpen (pos n)

abbrev pub sets_idle : ℕ → Event
sets_idle n = SetLimit MaxIdle (pos n)

abbrev pub sets_life : ℕ → Event
sets_life d = SetLimit MaxLife (pos d)

abbrev pub sets_idle_time : ℕ → Event
sets_idle_time d = SetLimit MaxIdleTime (pos d)

abbrev pub ticks : ℕ → Event
ticks now = Ticked now

abbrev pub open_start : ℕ → ℕ → Event
open_start c n = Pool (OpenStart c n)

abbrev pub lend : ℕ → ℕ → ℕ → Event
lend c t n = Pool (Lend c t (Call n) n)

abbrev pub back : ℕ → Event
back c = Pool (Back c)

abbrev pub close : ℕ → CloseCause → Event
close c cause = Pool (CloseStart c cause)

abbrev pub gone : ℕ → Event
gone c = Pool (Gone c)

abbrev pub fell : ℕ → ℕ → Event
fell c n = Pool (Fell c n)

-- Returns the entry of the layer's own driver call on connection c in tenure t.
abbrev pub house : ℕ → ℕ → DriverCall → DriverAnswer → Event
house c t call answer =
    Heard (record { conn = c; tenure = t; owner = House; call_no = 0; tx = 0; call = call; answer = answer })

-- Returns the entry of call m's driver call on connection c, which is lent to call n in tenure t.
abbrev pub sent : ℕ → ℕ → ℕ → ℕ → DriverCall → DriverAnswer → Event
sent c t n m call answer =
    Heard (record { conn = c; tenure = t; owner = Call n; call_no = m; tx = 0; call = call; answer = answer })

-- Returns the reply with the open limit and five counts: connections open, in use and idle, waits, and
-- connections closed as one too many.
abbrev pub stats : ℕ → ℕ → ℕ → ℕ → ℕ → ℕ → Reply
stats most opened used idles waits closed =
    replies.Stats (record {
      max_open_connections = most;
      open_connections = opened;
      in_use = used;
      idle = idles;
      wait_count = waits;
      wait_duration = 0;
      max_idle_closed = closed;
      max_idle_time_closed = 0;
      max_lifetime_closed = 0;
    })

-- Returns the reply if nothing is open. It counts the connections closed as idle for too long and those closed
-- as open for too long.
abbrev pub stats_of_times : ℕ → ℕ → Reply
stats_of_times idle_out expired =
    replies.Stats (record {
      max_open_connections = 0;
      open_connections = 0;
      in_use = 0;
      idle = 0;
      wait_count = 0;
      wait_duration = 0;
      max_idle_closed = 0;
      max_idle_time_closed = idle_out;
      max_lifetime_closed = expired;
    })

-- Returns the reply if one connection may be open and is idle, and a call waited for it for so many
-- nanoseconds.
abbrev pub stats_of_a_wait : ℕ → Reply
stats_of_a_wait waited =
    replies.Stats (record {
      max_open_connections = 1;
      open_connections = 1;
      in_use = 0;
      idle = 1;
      wait_count = 1;
      wait_duration = waited;
      max_idle_closed = 0;
      max_idle_time_closed = 0;
      max_lifetime_closed = 0;
    })
