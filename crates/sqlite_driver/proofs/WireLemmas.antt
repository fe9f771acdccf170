-- What a wire is after a call that it heard, or for which there was no memory.
use Rattle.std.proofs.Common.{◌≡◌, ◌+◌, true, false, length, ap}
use Rattle.dsql_driver.specs.Fits.{is_memory}
use Rattle.dsql_driver.specs.declared.call.DriverCall.{DriverCall}
use Rattle.dsql_driver.specs.declared.wire.Answered.{Answered}
use Rattle.dsql_driver_session.specs.Session.{IsSound}
use Rattle.dsql_driver_session.proofs.LawfulLemmas.{IsLawful, IsHeard}
use Rattle.dsql_mem_plans.specs.Plans.{planned_at}
use Rattle.sqlite_driver.specs.Wire.{WireState, Hears, after_want}
use Rattle.sqlite_driver.proofs.ServedLemmas.{ServesUnless-IsLawful}

-- A call that a wire heard is answered lawfully.
pub Hears-IsLawful : (call : DriverCall) (answered : Answered) (before after : WireState) → IsSound before.session → Hears call answered before after → IsLawful call answered.answer before.session after.session
Hears-IsLawful call answered before after sound h =
    ServesUnless-IsLawful call (planned_at (length before.log.told.calls + 1) before.log.planned) answered before.session after.session sound h.served

-- A wire meets the clauses of wires if it heard the call, or if there was no memory and only its report changed. Its
-- session was sound before.
pub Hears-IsHeard : (call : DriverCall) (answered : Answered) (before after : WireState) → IsSound before.session → (is_memory answered.answer ≡ false → Hears call answered before after) → (is_memory answered.answer ≡ true → after ≡ after_want call before) → IsHeard call answered.answer before.session after.session
Hears-IsHeard call answered before after sound heard wants = record {
  lawful = λ other. Hears-IsLawful call answered before after sound (heard other);
  stays = λ memory. ap (λ (w : WireState). w.session) (wants memory);
}
