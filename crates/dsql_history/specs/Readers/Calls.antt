-- Defines the calls of a history: their records, and the replies that are settled for them.
use Rattle.std.specs.Prelude.{ℕ, ◌==◌, Bool, false, not, ◌&&◌, ◌||◌, cond, List, [], ◌∷◌, ◌++◌, length, slice_set, slice_index_or, Option, Some, None, option_map}
use Rattle.std.specs.List.{list_any}
use Rattle.dsql_history_work.specs.value.declared.value.Param.{Param}
use Rattle.dsql_history_work.specs.value.Arguments.{first_fault}
use Rattle.dsql_history_work.specs.driver.declared.caps.Caps.{Caps}
use Rattle.dsql_history_work.specs.journal.declared.entry.Entry.{Entry}
use Rattle.dsql_history_work.specs.rows.declared.rows.Rows.{Rows}
use Rattle.dsql_history_work.specs.course.Made.{or_else}
use Rattle.dsql_pool.specs.Pooled.{stats}
use Rattle.dsql_tx.specs.declared.end.TxEnd.{TxEnd}
use Rattle.dsql_history_work.specs.Calls.{accepted}
use Rattle.dsql_history.specs.declared.record.Try.{Try}
use Rattle.dsql_history.specs.declared.record.Try.TheVariants.{Served, Lost, Refused}
use Rattle.dsql_history.specs.Readers.Tries.{try_number, has_a_try, tries, tries_again}
use Rattle.dsql_history.specs.Readers.Pool.{smallest, is_home, pool, home}
use Rattle.dsql_history.specs.declared.event.Event.{Event}
use Rattle.dsql_history.specs.declared.event.Event.TheVariants.{Entered, Heard, Replied}
use Rattle.dsql_history.specs.declared.event.Op.{Op}
use Rattle.dsql_history.specs.declared.event.Op.TheVariants as ops
use Rattle.dsql_history.specs.declared.event.Target.{Target}
use Rattle.dsql_history.specs.declared.event.Target.TheVariants as targets
use Rattle.dsql_history.specs.declared.record.CallRecord.{CallRecord}
use Rattle.dsql_history.specs.declared.reply.Reply.{Reply}
use Rattle.dsql_history.specs.declared.reply.Reply.TheVariants as reply
use Rattle.dsql_history.specs.declared.reply.Reply.TheVariants.{Truth, Absent, TxDone, DbClosed}
use Rattle.dsql_history.specs.declared.work.Scope.{Scope}
use Rattle.dsql_history.specs.declared.work.Scope.TheVariants.{Db, Held}
use Rattle.dsql_history.specs.declared.work.Work.{Work}
use Rattle.dsql_history.specs.declared.work.Work.TheVariants.{Fetch, Close, End, Look}
use Rattle.dsql_history.specs.declared.work.Work.TheVariants as works_of
use Rattle.dsql_history.specs.Readers.Course.{caps, db_end}
use Rattle.dsql_history.specs.Readers.Unfinished.{unfinished, is_unfinished}
use Rattle.dsql_history.specs.Readers.Works.{works, work, rows_maker, tx_maker, scope, borrower}
use Rattle.dsql_history.specs.Readers.Journals.{journal}
use Rattle.dsql_history.specs.Readers.Transactions.{is_begun, tx_end}
use Rattle.dsql_history.specs.Readers.HandedOut.{rows_by, are_over}
use Rattle.dsql_history.specs.Readers.Lines.{has_sent}
use Rattle.dsql_history.specs.Readers.Decisions.{statement, arguments, label_of, told_of, rows_reply, options_refused, bad_reply, reply_to, Trying, decision}

-- Returns the rows that an operation names, if their query has replied.
abbrev pub rows_for : List Event → Op → Option Rows
rows_for before op =
    cond (is_unfinished before (rows_maker (works before) (label_of op))) None
    (rows_by before (rows_maker (works before) (label_of op)))

-- Is true if transaction k was begun and its begin has replied.
abbrev pub is_there : List Event → ℕ → Bool
is_there before k = is_begun before k && not (is_unfinished before k)

-- Returns the reply that the transaction has this end, if it has ended.
abbrev pub done_with : Option TxEnd → Option Reply
done_with end = option_map TxDone end

-- Returns the reply that refuses a call on the transaction with this label: that there is none, or that it has
-- ended.
abbrev pub tx_refused : List Event → List ℕ → Option Reply
tx_refused before tx =
    cond (is_there before (tx_maker (works before) tx)) (done_with (tx_end before (tx_maker (works before) tx)))
    (Some (Absent tx))

-- Returns the reply that the database is closed, if it is. A closed database lends no connection.
abbrev pub db_refused : List Event → Option Reply
db_refused before = option_map DbClosed (db_end before)

-- Returns the reply that refuses a statement on this target, if it can't be carried out there.
abbrev pub target_refused : List Event → Target → Option Reply
target_refused before targets.Db = db_refused before
target_refused before (targets.Label tx) = tx_refused before tx

-- Returns the reply that refuses a statement as it enters, if any. Its target refuses it, or its first argument
-- with a refused name or value does.
abbrev pub statement_refused : List Event → Target → Op → Option Reply
statement_refused before target op =
    or_else (target_refused before target) (told_of (first_fault (caps before).named (arguments op)))

-- Returns the reply that a call gets as it enters, if any. A close of the database and a question for its
-- statistics get theirs at once.
abbrev pub told_at_entry : List Event → Op → Option Reply
told_at_entry before (ops.Exec target text args) = statement_refused before target (ops.Exec target text args)
told_at_entry before (ops.Query label target text args) =
    statement_refused before target (ops.Query label target text args)
told_at_entry before (ops.One target dests text args) = statement_refused before target (ops.One target dests text args)
told_at_entry before (ops.Begin label level read_only) =
    or_else (db_refused before) (options_refused (caps before).begin_options level read_only)
told_at_entry before (ops.Commit tx) = tx_refused before tx
told_at_entry before (ops.Rollback tx) = tx_refused before tx
told_at_entry before ops.Ping = db_refused before
told_at_entry before ops.DbClose = Some reply.Ok
told_at_entry before ops.Stats = Some (reply.Stats (stats (pool before)))
told_at_entry before op = rows_reply (rows_for before op) op

-- Returns the parameters that the operation's arguments become, if none of them is refused.
abbrev pub params_at_entry : Caps → Op → List Param
params_at_entry can op = accepted (first_fault can.named (arguments op)) (arguments op)

-- Returns the record that stands for call 0, which no client makes.
abbrev pub nobody : CallRecord
nobody = record { client = 0; text = []; params = []; decided = None }

abbrev pub with_record : ℕ → (CallRecord → CallRecord) → List CallRecord → List CallRecord
with_record n change calls = slice_set calls n (change (slice_index_or calls n nobody))

abbrev pub entering : List Event → ℕ → Op → CallRecord
entering before client op =
    record {
      client = client;
      text = statement op;
      params = params_at_entry (caps before) op;
      decided = told_at_entry before op;
    }

-- Returns how a call with this work and record stands in the try with this number.
abbrev pub trying : ℕ → Work → CallRecord → Trying
trying number work r =
    record { again = tries_again work number; number = number; count = length r.params; work = work }

-- Returns the record of a call with this work after an answer to it in this try. The layer's own driver calls
-- belong to no call and change no record.
abbrev pub decided_by : ℕ → Work → Entry → CallRecord → CallRecord
decided_by number work e r =
    cond (e.call_no == 0) r
    (record r { decided = decision (trying number work r) e.call e.answer r.decided })

-- Returns the records of all calls, each at its number.
abbrev pub calls : List Event → List CallRecord
calls [] = nobody ∷ []
calls (Entered client n op ∷ before) = calls before ++ entering before client op ∷ []
calls (Heard e ∷ before) =
    with_record e.call_no (decided_by (try_number (tries before e.call_no)) (work before e.call_no) e) (calls before)
calls (Replied n reply ∷ before) = with_record n (λ r. record r { decided = None }) (calls before)
calls (_ ∷ before) = calls before

abbrev pub call_record : List Event → ℕ → CallRecord
call_record before n = slice_index_or (calls before) n nobody

-- Returns the number that the next call gets.
abbrev pub next_call : List Event → ℕ
next_call before = length (calls before)

-- Is true if the client has an unfinished call.
abbrev pub is_busy : ℕ → List Event → Bool
is_busy client before = list_any (λ n. (call_record before n).client == client) (unfinished before)

-- Returns the connection that call m uses, 0 if it has none yet.
abbrev pub site : List Event → ℕ → ℕ
site before m = home before (borrower before m)

-- Returns the reply that call n itself has settled, if any.
abbrev pub decided : List Event → ℕ → Option Reply
decided before n = (call_record before n).decided

-- Returns the reply that the newest try gives, if that try is the last one. The call was refused, or its connection was
-- bad.
abbrev pub last_told : Bool → ℕ → List Try → Option Reply
last_told again number (Refused answer ∷ earlier) = reply_to again number answer
last_told again number (Lost ∷ earlier) = bad_reply again number
last_told again number tries = None

-- Returns the reply that a call without a connection gets, if any. As long as it has a try left, that is that
-- the database is closed. Otherwise its newest try gives the reply.
abbrev pub told_by_tries : List Event → Work → List Try → Option Reply
told_by_tries before work tries =
    cond (has_a_try tries) (db_refused before)
    (last_told (tries_again work (try_number tries)) (try_number tries) tries)

-- Is true if call n has sent something on the connection that it uses.
abbrev pub has_begun_to_send : List Event → ℕ → Bool
has_begun_to_send before n = has_sent n (journal before (site before n))

-- Returns the reply that transaction k's end gives call n in it, if the transaction ends before the call has
-- sent anything.
abbrev pub told_by_tx_end : List Event → ℕ → ℕ → Option Reply
told_by_tx_end before n k = cond (has_begun_to_send before n) None (done_with (tx_end before k))

-- Returns the reply that others have settled for call n, if any. On the database its tries settle it, in a
-- transaction the transaction's end.
abbrev pub told_by_scope : List Event → ℕ → Work → Scope → Option Reply
told_by_scope before n work Db = told_by_tries before work (tries before n)
told_by_scope before n work (Held k) = told_by_tx_end before n k

-- Returns the reply that others have settled for call n, if any. For a fetch of rows that they ended, it is
-- that there is no row. For a close, it is that nothing is left to close.
abbrev pub told_of_work : List Event → ℕ → Work → Option Reply
told_of_work before n (Fetch k) = cond (are_over before k) (Some (Truth false)) None
told_of_work before n (Close k) = Some reply.Ok
told_of_work before n (End k) = None
told_of_work before n Look = None
told_of_work before n it = told_by_scope before n it (scope it)

abbrev pub told_by_others : List Event → ℕ → Option Reply
told_by_others before n = told_of_work before n (work before n)

-- Returns the reply that a ping gets as the pool lends it a connection, if any. The layer sends no Ping to a
-- driver that can't ping.
abbrev pub told_as_lent : Caps → Work → List Try → Option Reply
told_as_lent can works_of.Ping (Served ∷ earlier) = cond can.pinger None (Some reply.Ok)
told_as_lent can work tries = None

abbrev pub told_at_lending : List Event → ℕ → Option Reply
told_at_lending before n = told_as_lent (caps before) (work before n) (tries before n)

-- Is true if a ping has its connection and the driver can neither ping nor test one. The layer then asks
-- nothing of the driver.
abbrev pub asks_nothing : Caps → Work → List Try → Bool
asks_nothing can works_of.Ping (Served ∷ earlier) = not (can.pinger || can.validator)
asks_nothing can work tries = false

-- Is true if call n is such a ping. It rests with its connection until a step of its own, in which it gives the
-- connection back and replies.
abbrev pub rests : List Event → ℕ → Bool
rests before n = is_unfinished before n && asks_nothing (caps before) (work before n) (tries before n)

-- Returns the connection with which call n rests, if it rests.
abbrev pub rests_with : List Event → ℕ → Option ℕ
rests_with before n = cond (rests before n) (smallest (is_home n) (pool before)) None

-- Returns the reply that call n gets after all its driver calls are made, if that reply is settled.
abbrev pub reply_due : List Event → ℕ → Option Reply
reply_due before n = or_else (or_else (decided before n) (told_by_others before n)) (told_at_lending before n)
