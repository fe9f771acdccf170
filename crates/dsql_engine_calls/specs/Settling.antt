-- The reply of a call that its row settles.
use Rattle.std.specs.Prelude.{ℕ, Bool, false, cond, List, Option, Some, None, option_map}
use Rattle.dsql_history.specs.course.Made.{or_else}
use Rattle.dsql_history.specs.declared.reply.DbEnd.{DbEnd}
use Rattle.dsql_history.specs.declared.record.Try.{Try}
use Rattle.dsql_history.specs.declared.record.Try.TheVariants.{Served, Lost, Refused}
use Rattle.dsql_engine_calls.specs.declared.tried.Tried.{Tried}
use Rattle.dsql_engine_calls.specs.Tried.{untried, has_another}
use Rattle.dsql_history.specs.tx.declared.end.TxEnd.{TxEnd}
use Rattle.dsql_history.specs.declared.event.Event.{Event}
use Rattle.dsql_history.specs.declared.reply.Reply.{Reply}
use Rattle.dsql_history.specs.declared.reply.Reply.TheVariants as reply
use Rattle.dsql_history.specs.declared.work.Scope.{Scope}
use Rattle.dsql_history.specs.declared.work.Scope.TheVariants.{Db, Held}
use Rattle.dsql_history.specs.declared.work.Work.{Work}
use Rattle.dsql_history.specs.declared.work.Work.TheVariants.{Ping, Fetch, Close, End, Look}
use Rattle.dsql_history.specs.Readers.Calls.{done_with, has_begun_to_send}
use Rattle.dsql_history.specs.Readers.Decisions.{reply_to, bad_reply}
use Rattle.dsql_history.specs.Readers.Transactions.{tx_end}
use Rattle.dsql_history.specs.Readers.Tries.{tries_again}
use Rattle.dsql_history.specs.Readers.Works.{scope, work}
use Rattle.dsql_engine_calls.specs.declared.call.CallRow.{CallRow}

-- Returns the reply by the newest try, if that is the last one and has this number. `again` is true if the call
-- tries again.
abbrev pub told_last : Bool → ℕ → Option Try → Option Reply
told_last again number (Some (Refused answer)) = reply_to again number answer
told_last again number (Some Lost) = bad_reply again number
told_last again number newest = None

-- Returns the reply by what closed the database as long as the call has a try left, otherwise by its newest
-- try.
abbrev pub told_trying : Option DbEnd → Work → Tried → Option Reply
told_trying closed work tried =
    cond (has_another tried) (option_map reply.DbClosed closed)
    (told_last (tries_again work tried.count) tried.count tried.newest)

-- Returns the reply by the tries on the database. In a transaction, returns it by what has ended the
-- transaction, as long as the call has sent nothing there.
abbrev pub told_by_tries_or_end : Option DbEnd → Option TxEnd → Work → Tried → Scope → Option Reply
told_by_tries_or_end closed ended work tried Db = told_trying closed work tried
told_by_tries_or_end closed ended work tried (Held k) = done_with ended

-- Returns what has ended the transaction in which call n works, if it works in one, as long as it has sent
-- nothing there.
abbrev pub ended_in : List Event → ℕ → Scope → Option TxEnd
ended_in past n Db = None
ended_in past n (Held k) = cond (has_begun_to_send past n) None (tx_end past k)

abbrev pub ended_before : List Event → ℕ → Option TxEnd
ended_before past n = ended_in past n (scope (work past n))

-- Returns the reply that others have settled. For a call over rows, the rows have ended, and nothing is left to
-- fetch or to close.
abbrev pub told_beside : Option DbEnd → Option TxEnd → Work → Tried → Option Reply
told_beside closed ended (Fetch k) tried = Some (reply.Truth false)
told_beside closed ended (Close k) tried = Some reply.Ok
told_beside closed ended (End k) tried = None
told_beside closed ended Look tried = None
told_beside closed ended work tried = told_by_tries_or_end closed ended work tried (scope work)

-- Returns the reply that the lending of a connection settles: that of a ping, if the driver can't ping.
abbrev pub told_served : Bool → Work → Option Try → Option Reply
told_served pinger Ping (Some Served) = cond pinger None (Some reply.Ok)
told_served pinger work newest = None

-- Returns the reply that any of these settles. `pinger` says whether the driver can ping.
abbrev pub settled_in : Option DbEnd → Option TxEnd → Bool → CallRow → Option Reply
settled_in closed ended pinger row =
    or_else (or_else row.call.decided (told_beside closed ended row.work row.tried))
    (told_served pinger row.work row.tried.newest)

-- Returns the reply, if one is settled.
abbrev pub reply_or : Option Reply → Reply
reply_or (Some reply) = reply
reply_or None = reply.TooMany

-- Returns the row of a call that has its reply, of which nothing counts any more.
abbrev pub replied : CallRow → CallRow
replied row = record row { call = record row.call { decided = None }; tried = untried }
