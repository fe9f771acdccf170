-- The answer that a planned fault puts in a call's place is lawful for the call, and so is the call's own
-- effect.
use Rattle.std.proofs.Common.{◌≡◌, ◌+◌, Bool, true, false, cond, Option, Some, None, option_and_then, length, refl}
use Rattle.dsql_driver.specs.Fits.{fits_of}
use Rattle.dsql_driver.specs.declared.call.DriverCall.{DriverCall}
use Rattle.dsql_driver.specs.declared.wire.Planned.{Planned}
use Rattle.dsql_driver_session.specs.Session.{IsSound}
use Rattle.dsql_mem_store.specs.Entries.{Entries}
use Rattle.dsql_mem_session.specs.declared.session.MemSession.{MemSession}
use Rattle.dsql_mem_calls.specs.Effect.{only_answered, effect_unless}
use Rattle.dsql_mem_plans.specs.Plans.{answer_planned, planned_at, fault_for}
use Rattle.dsql_mem_plans.proofs.FaultLemmas.{fault-answered, fault-handles, fault-cursors}
use Rattle.dsql_mem.specs.Wire.{WireState, comes_of}
use Rattle.dsql_mem.proofs.EffectLemmas.{HasLawful, effect-IsLawful}

-- A fault that fits the call is a lawful answer to it.
answered-IsLawful : (store : Entries) (session : MemSession) (call : DriverCall) (what : Planned) → fits_of call (answer_planned what) ≡ true → HasLawful call session (only_answered store session (answer_planned what))
answered-IsLawful store session call what fits =
    record {
      fits = fits;
      answered = fault-answered what;
      handles = fault-handles call what _;
      cursors = fault-cursors call what _;
    }

-- The fault planned in a call's place, or otherwise the call's own effect, is lawful for the call.
planned-IsLawful : (store : Entries) (session : MemSession) (call : DriverCall) (what : Option Planned) → IsSound session.live → HasLawful call session (effect_unless (option_and_then (fault_for call) what) store session call)
planned-IsLawful store session call None sound = effect-IsLawful store session call sound
planned-IsLawful store session call (Some what) sound = step (fits_of call (answer_planned what)) refl where
  step : (b : Bool) → fits_of call (answer_planned what) ≡ b → HasLawful call session (effect_unless (cond b (Some (answer_planned what)) None) store session call)
  step true fits = answered-IsLawful store session call what fits
  step false other = effect-IsLawful store session call sound

-- The effect of a wire's call is lawful for the call.
pub comes_of-IsLawful : (store : Entries) (wire : WireState) (call : DriverCall) → IsSound wire.session.live → HasLawful call wire.session (comes_of store wire call)
comes_of-IsLawful store wire call sound =
    planned-IsLawful store wire.session call (planned_at (length wire.told.calls + 1) wire.planned) sound
