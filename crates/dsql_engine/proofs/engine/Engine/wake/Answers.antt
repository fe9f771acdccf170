use Rattle.std.proofs.Common.{◌≡◌, ◌<◌, length, false, true, rules, sym, ap, subst, ◌∙◌, ℕ, List}
use Rattle.dsql_engine_hearing.specs.journal.Readers.{is_empty}
use Rattle.dsql_engine_hearing.specs.history.Readers.Calls.{is_busy}
use Rattle.dsql_engine_hearing.specs.history.Readers.Clients.{call_of}
use Rattle.dsql_engine_hearing.specs.history.Readers.Unfinished.{is_unfinished}
use Rattle.dsql_engine_hearing.specs.history.Rules.Flights.{is_in_flight}
use Rattle.dsql_engine_hearing.specs.history.Rules.Settled.{is_settled_but}
use Rattle.dsql_engine_hearing.specs.desk.Desk.{past}
use Rattle.dsql_engine_hearing.proofs.desk.KeptOfCalls.{lawful_kept}
use Rattle.dsql_engine_hearing.specs.going.Stepping.{are_of_unfinished}
use Rattle.dsql_engine_hearing.specs.laws_steps.Groups.{gone_on, most_events}
use Rattle.dsql_engine.specs.Core.{Core}
use Rattle.dsql_engine_hearing.specs.history.declared.record.Flight.{Flight}
use Rattle.dsql_engine_hearing.specs.going.Reaching.{HasGoneOn}
use Rattle.dsql_engine.proofs.Legality.{legal_kept, legal_of}
use Rattle.dsql_engine.proofs.Busy.{busy_unfinished}
use Rattle.dsql_engine.proofs.Flying.{begun_gone, gone_flies, gone_others, others_fly}
use Rattle.dsql_engine.proofs.Lengths.{room_after_gone}
use Rattle.dsql_engine_hearing.proofs.going.SettledBut.{settled_but}
use Rattle.dsql_engine.proofs.engine.Engine.wake.Goals as goal

pub invariant_of-self : goal.invariant_of-self
invariant_of-self c = (c.pay.ensures.stands, rw c.pay.ensures.past c.self.invariant.1, rw c.pay.ensures.past c.self.invariant.2, rw (c.pay.ensures.past, c.pay.ensures.flights) c.self.invariant.3, rw c.pay.ensures.past c.self.invariant.4)

pub go_on-requires-clause-may : goal.go_on-requires-clause-may
go_on-requires-clause-may c =
    let H = past c.self.inside.desk in
    let n = c.call_of-call.result in
    let busy : is_busy c.args.client H ≡ true = subst (λ (v : Core). is_busy c.args.client v.past ≡ true) (sym c.self.view_is) c.requires.unfinished in
    let unanswered : is_unfinished H n ≡ true = subst (λ k. is_unfinished H k ≡ true) (sym c.call_of-call.ensures) (busy_unfinished H c.args.client busy) in
    let parked : is_in_flight (call_of H c.args.client) c.self.inside.flights.flights ≡ false =
    subst (λ (v : Core). is_in_flight (call_of v.past c.args.client) v.flights ≡ false) (sym c.self.view_is) c.requires.parked
    in
    record {
      settled = subst (λ K. is_settled_but n K ≡ true) (sym c.pay.ensures.past) (settled_but H n (lawful_kept c.self.inside.desk c.self.invariant.0) c.self.invariant.1);
      unfinished = subst (λ K. is_unfinished K n ≡ true) (sym c.pay.ensures.past) unanswered;
      parked = subst (λ fs. is_in_flight n fs ≡ false) (sym c.pay.ensures.flights) (subst (λ k. is_in_flight k c.self.inside.flights.flights ≡ false) (sym c.call_of-call.ensures) parked);
      spare = search rules;
    }

pub invariant_of-self-2 : goal.invariant_of-self-2
invariant_of-self-2 c =
    let H = past c.pay.new.desk in
    let n = c.call_of-call.result in
    let before = c.pay.new.flights.flights in
    let r = c.go_on.ensures.reaches in
    let begun : is_empty H ≡ false = rw c.pay.ensures.past c.self.invariant.2 in
    let flying : are_of_unfinished H before ≡ true = rw (c.pay.ensures.past, c.pay.ensures.flights) c.self.invariant.3 in
    let parked : is_in_flight (call_of (past c.self.inside.desk) c.args.client) c.self.inside.flights.flights ≡ false =
    subst (λ (v : Core). is_in_flight (call_of v.past c.args.client) v.flights ≡ false) (sym c.self.view_is) c.requires.parked
    in
    let still : is_in_flight n before ≡ false =
    subst (λ fs. is_in_flight n fs ≡ false) (sym c.pay.ensures.flights) (subst (λ k. is_in_flight k c.self.inside.flights.flights ≡ false) (sym c.call_of-call.ensures) parked)
    in
    let short : length H < most_events = rw c.pay.ensures.past (subst (λ (v : Core). length v.past < most_events) (sym c.self.view_is) c.requires.room) in
    let others : are_of_unfinished (gone_on n H) before ≡ true = others_fly H (gone_on n H) n before (gone_others n H) still flying in (
      r.stands,
      r.settled,
      rw r.group (begun_gone n H begun),
      gone_flies (past c.go_on.new.desk) n before c.go_on.new.flights.flights c.go_on.result c.go_on.ensures.goes (subst (λ K. are_of_unfinished K before ≡ true) (sym r.group) others),
      room_after_gone H (past c.go_on.new.desk) n r.group short,
    )

pub returns-in_err-pay-clause-legal : goal.returns-in_err-pay-clause-legal
returns-in_err-pay-clause-legal c = legal_kept c.self.inside.desk c.pay.new.desk c.pay.ensures.stands c.pay.ensures.past c.self.invariant.1 c.self.invariant.2

pub returns-clause-group : goal.returns-clause-group
returns-clause-group c =
    let n = c.call_of-call.result in
    let r = c.go_on.ensures.reaches in
    subst (λ (v : Core). past c.go_on.new.desk ≡ gone_on (call_of v.past c.args.client) v.past) c.self.view_is
    (r.group ∙ (ap (gone_on n) c.pay.ensures.past ∙ ap (λ (k : ℕ). gone_on k (past c.self.inside.desk)) c.call_of-call.ensures))

pub returns-clause-next : goal.returns-clause-next
returns-clause-next c =
    let K = past c.go_on.new.desk in
    let after = c.go_on.new.flights.flights in
    let next = c.go_on.result in
    subst (λ (v : Core). HasGoneOn K v.flights after (call_of v.past c.args.client) next) c.self.view_is
    (subst (λ (k : ℕ). HasGoneOn K c.self.inside.flights.flights after k next) c.call_of-call.ensures
    (subst (λ (before : List Flight). HasGoneOn K before after c.call_of-call.result next) c.pay.ensures.flights c.go_on.ensures.goes))

pub returns-clause-legal : goal.returns-clause-legal
returns-clause-legal c =
    let H = past c.pay.new.desk in
    let r = c.go_on.ensures.reaches in
    let begun : is_empty H ≡ false = rw c.pay.ensures.past c.self.invariant.2 in
    legal_of c.go_on.new.desk r.stands r.settled (rw r.group (begun_gone c.call_of-call.result H begun))
