-- What a server may have carried out for a call.
use Rattle.std.specs.Prelude.{ℕ, ◌==◌, ◌+◌, Bool, true, false, not, ◌&&◌, ◌||◌, cond, List, [], ◌∷◌}
use Rattle.dsql_laws_calls.specs.driver.Kinds.{is_bad}
use Rattle.dsql_laws_calls.specs.driver.declared.call.DriverCall.{DriverCall}
use Rattle.dsql_laws_calls.specs.driver.declared.call.DriverCall.TheVariants.{Ping, Exec, Query}
use Rattle.dsql_laws_calls.specs.driver.declared.answer.DriverAnswer.{DriverAnswer}
use Rattle.dsql_laws_calls.specs.driver.declared.answer.DriverAnswer.TheVariants.{Skip}
use Rattle.dsql_laws_calls.specs.journal.declared.entry.Entry.{Entry}
use Rattle.dsql_laws_calls.specs.history.declared.event.Event.{Event}
use Rattle.dsql_laws_calls.specs.history.declared.event.Event.TheVariants.{Heard}
use Rattle.dsql_laws_calls.specs.history.declared.work.Scope.TheVariants.{Db}
use Rattle.dsql_laws_calls.specs.history.declared.work.Work.{Work}
use Rattle.dsql_laws_calls.specs.history.declared.work.Task.TheVariants.{ReadOne}
use Rattle.dsql_laws_calls.specs.history.declared.work.Work.TheVariants.{Statement}

-- Is true if the driver call is a statement or a ping.
abbrev pub is_statement : DriverCall → Bool
is_statement Ping = true
is_statement (Exec input params) = true
is_statement (Query input params) = true
is_statement call = false

-- Is true if the answer says that the driver skips the driver call.
abbrev pub is_skip : DriverAnswer → Bool
is_skip Skip = true
is_skip answer = false

-- Is true if a server may have carried out the entry's statement or ping. The answer is neither that the connection is
-- bad nor that the driver skips it.
abbrev pub may_be_carried_out : Entry → Bool
may_be_carried_out e = is_statement e.call && not (is_bad e.answer || is_skip e.answer)

-- Returns how many entries of call n a server may have carried out.
abbrev pub carried_out : List Event → ℕ → ℕ
carried_out [] n = 0
carried_out (Heard e ∷ before) n =
    cond ((e.call_no == n) && may_be_carried_out e) (carried_out before n + 1) (carried_out before n)
carried_out (_ ∷ before) n = carried_out before n

-- Is true if the work reads one row itself, on the database. In a transaction a call has one try, whatever it
-- reads.
abbrev pub reads_one : Work → Bool
reads_one (Statement Db (ReadOne dests)) = true
reads_one work = false
