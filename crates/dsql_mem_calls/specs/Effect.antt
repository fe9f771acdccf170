-- What each driver call does to a map and a session, and how it is answered.
use Rattle.std.specs.Prelude.{pos, List, Option, Some, None, is_some, if◌then◌else◌}
use Rattle.std.specs.Option.{option_map_or}
use Rattle.dsql_driver.specs.declared.answer.DriverAnswer.{DriverAnswer}
use Rattle.dsql_driver.specs.declared.answer.DriverAnswer.TheVariants.{Done, Result}
use Rattle.dsql_driver.specs.declared.call.DriverCall.{DriverCall}
use Rattle.dsql_driver.specs.declared.call.DriverCall.TheVariants.{Reset, Prepare, CloseStmt, Exec, Query, Next, CloseRows, Begin, Commit, Rollback, Shut}
use Rattle.dsql_mem_store.specs.Entries.{Entries, with_state, value_at}
use Rattle.dsql_mem_store.specs.Undo.{rolled_back}
use Rattle.dsql_driver_session.specs.Calls.{Kept, closed, next_taken, rows_closed}
use Rattle.dsql_mem_session.specs.Calls.{executed_in, queried_in, prepared, shown, begun, committed, no_such_handle, no_transaction}
use Rattle.dsql_mem_session.specs.Session.{noted}
use Rattle.dsql_mem_session.specs.Statement.{statement_of}
use Rattle.dsql_mem_session.specs.declared.execute.Outcome.{Outcome}
use Rattle.dsql_mem_session.specs.declared.execute.Outcome.TheVariants.{Write}
use Rattle.dsql_mem_session.specs.declared.execute.Outcome.TheVariants as outcome
use Rattle.dsql_mem_session.specs.declared.session.MemSession.{MemSession}
use Rattle.dsql_mem_store.specs.declared.note.Note.{Note}

-- The map and the session after a driver call, and its answer.
pub record Effect : Type 0 where
  pub store : Entries
  pub session : MemSession
  pub answer : DriverAnswer

-- Returns the effect of an answer that changes nothing.
abbrev pub only_answered : Entries → MemSession → DriverAnswer → Effect
only_answered store session answer = record { store = store; session = session; answer = answer }

-- Returns the effect of a driver call that changes only handles and cursors.
abbrev pub in_session : Entries → MemSession → Kept → Effect
in_session store session kept = record { store = store; session = record session { live = kept.0 }; answer = kept.1 }

-- Returns the effect of a driver call that begins a transaction or leaves what one wrote.
abbrev pub in_undo : Entries → MemSession → Option (List Note) × DriverAnswer → Effect
in_undo store session kept = record { store = store; session = record session { undo = kept.0 }; answer = kept.1 }

-- Returns the effect of a command: it writes and the session notes it, or its refusal is answered.
abbrev pub carried_out : Entries → MemSession → Outcome → Effect
carried_out store session (Write key value count) =
    record {
      store = with_state key value store;
      session = record session { undo = noted (record { key = key; value = value_at key store }) session.undo };
      answer = Result (pos 0) count;
    }
carried_out store session (outcome.Refused answer) = only_answered store session answer

-- Returns the effect of ending the open transaction, if there is one: what it wrote is taken back.
abbrev pub taken_back : Entries → MemSession → Effect
taken_back store session =
    record {
      store = option_map_or (λ notes. rolled_back notes store) session.undo store;
      session = record session { undo = None };
      answer = Done;
    }

abbrev pub effect : Entries → MemSession → DriverCall → Effect
effect store session Reset = taken_back store session
effect store session Shut = taken_back store session
effect store session (Prepare text) = in_session store session (prepared session.live text (statement_of text))
effect store session (CloseStmt handle) = in_session store session (closed session.live handle no_such_handle)
effect store session (Exec input params) = carried_out store session (executed_in store session.live input params)
effect store session (Query input params) =
    in_session store session (shown session.live (queried_in store session.live input params))
effect store session (Next rows) = in_session store session (next_taken session.live rows no_such_handle)
effect store session (CloseRows rows) = in_session store session (rows_closed session.live rows no_such_handle)
effect store session (Begin level read_only) = in_undo store session (begun session.undo)
effect store session Commit = in_undo store session (committed session.undo)
effect store session Rollback =
    if is_some session.undo then taken_back store session else only_answered store session no_transaction
effect store session _ = only_answered store session Done

-- Returns the effect of a driver call. If a fault takes its place, the fault is answered and nothing else
-- happens.
abbrev pub effect_unless : Option DriverAnswer → Entries → MemSession → DriverCall → Effect
effect_unless None store session call = effect store session call
effect_unless (Some fault) store session call = only_answered store session fault
