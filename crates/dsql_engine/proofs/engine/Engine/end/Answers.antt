use Rattle.std.proofs.Common.{◌≡◌, ◌≤◌, arith, rules, length, false, true, refl, sym, subst, ◌∷◌, List}
use Rattle.dsql_engine_hearing.specs.history.declared.event.Event.{Event}
use Rattle.dsql_engine_hearing.specs.history.Readers.Course.{has_ended}
use Rattle.dsql_engine_hearing.specs.history.Rules.House.{is_quiet}
use Rattle.dsql_engine_hearing.specs.going.Stepping.{events_of_a_step}
use Rattle.dsql_engine.specs.Core.{Core, most_before_end}
use Rattle.dsql_engine.proofs.Legality.{legal_kept, legal_of}
use Rattle.dsql_engine_hearing.specs.history.declared.event.Event.TheVariants.{Ended}
use Rattle.dsql_engine_hearing.specs.history.Readers.Owed.{owed}
use Rattle.dsql_engine_hearing.specs.desk.Desk.{past}
use Rattle.dsql_engine.proofs.Appended.{moves_fly}
use Rattle.dsql_engine.proofs.Flying.{begun_moved}
use Rattle.dsql_engine.proofs.Lengths.{room_after_end}
use Rattle.dsql_engine.proofs.engine.Engine.end.Goals as goal

pub invariant_of-self : goal.invariant_of-self
invariant_of-self c = (c.pay.ensures.stands, rw c.pay.ensures.past c.self.invariant.1, rw c.pay.ensures.past c.self.invariant.2, rw (c.pay.ensures.past, c.pay.ensures.flights) c.self.invariant.3, rw c.pay.ensures.past c.self.invariant.4)

pub end_run-requires-clause-pays : goal.end_run-requires-clause-pays
end_run-requires-clause-pays c =
    let running : has_ended (past c.self.inside.desk) ≡ false = subst (λ (v : Core). has_ended v.past ≡ false) (sym c.self.view_is) c.requires.running in
    let few : length (past c.pay.new.desk) ≤ most_before_end = rw c.pay.ensures.past (c.self.invariant.4 running) in
    let paid : c.pay.new.desk.paid ≡ events_of_a_step = search rules in
    record { stands = c.pay.ensures.stands; paid = omega (arith, paid); few = omega (arith, few) }

pub end_run-requires-clause-settled : goal.end_run-requires-clause-settled
end_run-requires-clause-settled c = rw c.pay.ensures.past c.self.invariant.1

pub end_run-requires-clause-begun : goal.end_run-requires-clause-begun
end_run-requires-clause-begun c = rw c.pay.ensures.past c.self.invariant.2

pub end_run-requires-clause-quiet : goal.end_run-requires-clause-quiet
end_run-requires-clause-quiet c = subst (λ (H : List Event). is_quiet H ≡ true) (sym c.pay.ensures.past) (subst (λ (v : Core). is_quiet v.past ≡ true) (sym c.self.view_is) c.requires.quiet)

pub end_run-requires-clause-running : goal.end_run-requires-clause-running
end_run-requires-clause-running c = subst (λ (H : List Event). has_ended H ≡ false) (sym c.pay.ensures.past) (subst (λ (v : Core). has_ended v.past ≡ false) (sym c.self.view_is) c.requires.running)

pub invariant_of-self-2 : goal.invariant_of-self-2
invariant_of-self-2 c =
    let r = c.end_run.ensures.reaches in
    let K = Ended ∷ past c.pay.new.desk in (
      r.stands,
      r.settled,
      rw r.group (begun_moved (owed K) K refl),
      rw r.group (moves_fly (owed K) K _ (rw (c.pay.ensures.past, c.pay.ensures.flights) c.self.invariant.3)),
      room_after_end (past c.pay.new.desk) (past c.end_run.new.desk) r.group,
    )

pub returns-clause-legal : goal.returns-clause-legal
returns-clause-legal c =
    let r = c.end_run.ensures.reaches in
    let K = Ended ∷ past c.pay.new.desk in
    legal_of c.end_run.new.desk r.stands r.settled (rw r.group (begun_moved (owed K) K refl))

pub returns-in_err-pay-clause-legal : goal.returns-in_err-pay-clause-legal
returns-in_err-pay-clause-legal c = legal_kept c.self.inside.desk c.pay.new.desk c.pay.ensures.stands c.pay.ensures.past c.self.invariant.1 c.self.invariant.2
