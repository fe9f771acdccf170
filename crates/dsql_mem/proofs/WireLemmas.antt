-- What a wire is after a call that it carried out on some map, or for which there was no memory.
use Rattle.std.proofs.Common.{◌≡◌, true, false, Option, refl, ap}
use Rattle.dsql_driver.specs.Fits.{is_memory}
use Rattle.dsql_driver.specs.declared.answer.DriverAnswer.{DriverAnswer}
use Rattle.dsql_driver.specs.declared.call.DriverCall.{DriverCall}
use Rattle.dsql_driver_session.specs.Session.{IsSound}
use Rattle.dsql_driver_session.proofs.LawfulLemmas.{IsHeard}
use Rattle.dsql_mem_store.specs.Entries.{Entries}
use Rattle.dsql_mem_session.specs.declared.session.MemSession.{MemSession}
use Rattle.dsql_mem_calls.specs.Effect.{effect_unless}
use Rattle.dsql_mem_plans.specs.WireLogs.{WireLogState, with_answer}
use Rattle.dsql_mem.specs.Wire.{WireState, CarriesOut, fault_in_place, after_call, after_want}
use Rattle.dsql_mem.proofs.PlanLemmas.{comes_of-IsLawful}

-- A wire that took a call's answer and recorded it is the wire after the call.
pub changed_by_parts : (store : Entries) (call : DriverCall) (before : WireState) (fault : Option DriverAnswer) (session : MemSession) (log : WireLogState) (answer : DriverAnswer) → fault ≡ fault_in_place before call → session ≡ (effect_unless fault store before.session call).session → answer ≡ (effect_unless fault store before.session call).answer → log ≡ with_answer call answer (record { told = before.told; planned = before.planned; faults = before.faults }) → record { session = session; told = log.told; planned = log.planned; faults = log.faults } ≡ after_call store before call
changed_by_parts store call before fault session log answer d s a l = rw (l, s, a, d) refl

-- A wire meets the clauses of wires if it carried the call out, or if there was no memory and only its report changed.
-- Its session was sound before.
pub carried_out-IsHeard : (store : Entries) (call : DriverCall) (answer : DriverAnswer) (before after : WireState) → IsSound before.session.live → (is_memory answer ≡ false → CarriesOut store call answer before after) → (is_memory answer ≡ true → after ≡ after_want call before) → IsHeard call answer before.session.live after.session.live
carried_out-IsHeard store call answer before after sound carried wants = record {
  lawful = λ other. rw ((carried other).answered, (carried other).changed) (comes_of-IsLawful store before call sound);
  stays = λ memory. ap (λ (w : WireState). w.session.live) (wants memory);
}
