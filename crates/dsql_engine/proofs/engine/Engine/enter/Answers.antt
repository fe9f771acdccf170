use Rattle.std.proofs.Common.{◌≡◌, ◌<◌, length, true, List, sym, ap, subst, ◌∙◌}
use Rattle.dsql_engine_hearing.specs.history.declared.event.Event.{Event}
use Rattle.dsql_engine_hearing.specs.history.declared.record.Flight.{Flight}
use Rattle.dsql_engine_hearing.specs.history.Legal.{Legal}
use Rattle.dsql_engine_hearing.specs.history.Readers.Calls.{next_call}
use Rattle.dsql_engine_hearing.specs.journal.Readers.{is_empty}
use Rattle.dsql_engine_hearing.specs.desk.Desk.{past}
use Rattle.dsql_engine_hearing.proofs.desk.KeptOfCalls.{lawful_kept}
use Rattle.dsql_engine_hearing.specs.going.Reaching.{HasGoneOn}
use Rattle.dsql_engine_hearing.specs.going.Stepping.{are_of_unfinished}
use Rattle.dsql_engine_hearing.specs.laws_steps.Groups.{most_events}
use Rattle.dsql_engine.specs.Core.{Core}
use Rattle.dsql_engine.proofs.Legality.{legal_kept, legal_of}
use Rattle.dsql_engine.proofs.Lengths.{room_after_enter}
use Rattle.dsql_engine.proofs.Stepped.{begun_entered, entered_flies}
use Rattle.dsql_engine.proofs.engine.Engine.enter.Goals as goal

pub returns-in_err-start-clause-legal : goal.returns-in_err-start-clause-legal
returns-in_err-start-clause-legal c = subst (λ (v : Core). Legal v.past) c.self.view_is (legal_of c.self.inside.desk c.self.invariant.0 c.self.invariant.1 c.self.invariant.2)

pub returns-in_err-pay-clause-legal : goal.returns-in_err-pay-clause-legal
returns-in_err-pay-clause-legal c = legal_kept c.self.inside.desk c.pay.new.desk c.pay.ensures.stands c.pay.ensures.past c.self.invariant.1 c.self.invariant.2

pub invariant_of-self-2 : goal.invariant_of-self-2
invariant_of-self-2 c =
    let H = past c.pay.new.desk in
    let K = past c.enter_call.new.desk in
    let before = c.pay.new.flights.flights in
    let r = c.enter_call.ensures.reaches in
    let lawful = lawful_kept c.pay.new.desk c.pay.ensures.stands in
    let short : length H < most_events = rw c.pay.ensures.past (subst (λ (v : Core). length v.past < most_events) (sym c.self.view_is) c.requires.room) in
    let flying : are_of_unfinished H before ≡ true = rw (c.pay.ensures.past, c.pay.ensures.flights) c.self.invariant.3 in (
      r.stands,
      r.settled,
      ap is_empty r.group ∙ begun_entered H c.args.client c.args.op,
      entered_flies H c.args.client c.args.op K before c.enter_call.new.flights.flights c.enter_call.result lawful r.group flying c.enter_call.ensures.goes,
      room_after_enter H K c.args.client c.args.op r.group lawful (rw c.pay.ensures.past c.self.invariant.1) short,
    )

pub returns-clause-next : goal.returns-clause-next
returns-clause-next c =
    let K = past c.enter_call.new.desk in
    let after = c.enter_call.new.flights.flights in
    let next = c.enter_call.result in
    subst (λ (v : Core). HasGoneOn K v.flights after (next_call v.past) next) c.self.view_is
    (subst (λ (H : List Event). HasGoneOn K c.self.inside.flights.flights after (next_call H) next) c.pay.ensures.past
    (subst (λ (before : List Flight). HasGoneOn K before after (next_call (past c.pay.new.desk)) next) c.pay.ensures.flights c.enter_call.ensures.goes))

pub returns-clause-legal : goal.returns-clause-legal
returns-clause-legal c =
    let H = past c.pay.new.desk in
    let r = c.enter_call.ensures.reaches in
    legal_of c.enter_call.new.desk r.stands r.settled (ap is_empty r.group ∙ begun_entered H c.args.client c.args.op)
