-- The states of wires, and what the driver can do.
use Rattle.std.specs.Prelude.{◌≡◌, ℕ, true, List, Option, Some, None, unwrap_or}
use Rattle.dsql_driver.specs.Wires.{Plan}
use Rattle.dsql_driver.specs.declared.answer.DriverAnswer.{DriverAnswer}
use Rattle.dsql_driver.specs.declared.caps.Caps.{Caps}
use Rattle.dsql_driver.specs.declared.call.DriverCall.{DriverCall}
use Rattle.dsql_driver.specs.declared.wire.Answered.{Answered}
use Rattle.dsql_mem_plans.specs.Fleets.{FleetState}
use Rattle.dsql_mem_plans.specs.WireLogs.{WireLogState, new_wire_log, fault_due, with_answer, with_planned, with_want}
use Rattle.dsql_driver_session.specs.Copies.{copies_of}
use Rattle.sqlite_driver.specs.Served.{Serves}
use Rattle.dsql_driver_session.specs.Session.{SessionState, new_session}

-- A wire: its session, and its report with its planned faults. All wires of a fleet share the database, so it is no
-- part of a wire.
pub record WireState : Type 0 where
  pub session : SessionState
  pub log : WireLogState

-- Returns a wire that has heard only its Connect, with what its fleet planned for it. Its session is new.
abbrev pub new_wire : ℕ → List Plan → WireState
new_wire number planned = record { session = new_session; log = new_wire_log number planned }

-- Returns the wire after one more fault was planned on it.
abbrev pub after_plan : Plan → WireState → WireState
after_plan plan wire = record wire { log = with_planned plan wire.log }

-- Returns the wire after a call for which there was no memory. Only its report changes.
abbrev pub after_want : DriverCall → WireState → WireState
after_want call wire = record wire { log = with_want call wire.log }

-- Holds if the call had this answer, in both copies, and left this session. If a fault takes the call's place, the
-- fault is answered and the session stays.
abbrev pub ServesUnless : Option DriverAnswer → DriverCall → Answered → SessionState → SessionState → Type 0
ServesUnless None call answered before after = Serves call answered before after
ServesUnless (Some fault) call answered before after = (answered ≡ copies_of fault) × (after ≡ before)

-- Holds if the wire served the call with this answer, or answered with the fault that is due, and recorded that.
pub record Hears (call : DriverCall) (answered : Answered) (before after : WireState) : Type 0 where
  pub served : ServesUnless (fault_due call before.log) call answered before.session after.session
  pub logged : after.log ≡ with_answer call answered.answer before.log

-- Returns all capabilities.
abbrev pub default_caps : Caps
default_caps =
    record {
      fast_exec = true;
      fast_query = true;
      begin_options = true;
      named = true;
      pinger = true;
      resetter = true;
      validator = true;
    }

-- Returns what the fleet's driver can do: what was asked for last, or otherwise all that it can do.
abbrev pub ability_of : FleetState → Caps
ability_of fleet = unwrap_or fleet.preferred.last default_caps
