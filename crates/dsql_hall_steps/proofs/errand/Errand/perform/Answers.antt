use Rattle.std.proofs.Common.{◌≡◌, ap, subst, sym}
use Rattle.dsql_engine_laws.specs.journal.declared.entry.Permit.{Permit}
use Rattle.dsql_engine_laws.specs.tenure.Judged.{answered}
use Rattle.dsql_engine_laws.specs.wire.Journaled.{MayBeSent}
use Rattle.dsql_hall_steps.proofs.Sent.{lacking, lacks_answer, performed}
use Rattle.dsql_hall_steps.proofs.errand.Errand.perform.Goals as goal

pub perform_on-requires : goal.perform_on-requires
perform_on-requires g c =
    let is = c.self.invariant in
    subst (λ (p : Permit). MayBeSent c.self.inside.wire.conn c.self.inside.wire.journal p) (sym is.0) is.1.sends

pub invariant_of-result : goal.invariant_of-result
invariant_of-result g c =
    let is = c.self.invariant in
    let e = c.in-Ok.heard in
    performed _ _ _ _ _ is.1 e (subst (λ (p : Permit). e ≡ answered p e.answer) is.0 c.in-Ok.ensures.entry) c.in-Ok.ensures.fits c.in-Ok.ensures.noted

pub invariant_of-result-in-Err : goal.invariant_of-result-in-Err
invariant_of-result-in-Err g c =
    let is = c.self.invariant in (ap (λ (p : Permit). p.conn) is.0, lacking _ _ _ _ _ is.1 c.self.inside.permit.call c.in-Err.ensures.err)

pub returns-in-Err-clause-wire : goal.returns-in-Err-clause-wire
returns-in-Err-clause-wire g c =
    let it = c.self.inside in
    lacks_answer _ _ _ (record { work = it.bond; client = it.client; wire = c.perform_on.new.wire }) _ c.self.view_is c.self.invariant.0 c.in-Err.ensures.err
