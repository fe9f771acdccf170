use Rattle.std.proofs.Common.{◌≡◌, ◌<◌, length, false, true, sym, subst}
use Rattle.dsql_engine_hearing.specs.journal.Readers.{is_empty}
use Rattle.dsql_engine_hearing.specs.history.Rules.Settled.{Settled}
use Rattle.dsql_engine_hearing.specs.desk.Desk.{past}
use Rattle.dsql_engine_hearing.proofs.desk.KeptOfCalls.{lawful_kept}
use Rattle.dsql_engine_hearing.specs.going.Stepping.{are_of_unfinished}
use Rattle.dsql_engine_hearing.specs.laws_steps.Groups.{most_events}
use Rattle.dsql_engine.specs.Core.{Core}
use Rattle.dsql_engine.proofs.Appended.{after_a_control}
use Rattle.dsql_engine.proofs.Lengths.{room_after_control}
use Rattle.dsql_engine.proofs.Legality.{legal_kept, legal_of}
use Rattle.dsql_engine.proofs.engine.Engine.control.Goals as goal

pub invariant_of-self : goal.invariant_of-self
invariant_of-self c = (c.pay.ensures.stands, rw c.pay.ensures.past c.self.invariant.1, rw c.pay.ensures.past c.self.invariant.2, rw (c.pay.ensures.past, c.pay.ensures.flights) c.self.invariant.3, rw c.pay.ensures.past c.self.invariant.4)

pub control-requires-clause-settled : goal.control-requires-clause-settled
control-requires-clause-settled c = rw c.pay.ensures.past c.self.invariant.1

pub control-requires-clause-begun : goal.control-requires-clause-begun
control-requires-clause-begun c = rw c.pay.ensures.past c.self.invariant.2

pub invariant_of-self-2 : goal.invariant_of-self-2
invariant_of-self-2 c =
    let r = c.control.ensures in
    let H = past c.pay.new.desk in
    let settled : Settled H = rw c.pay.ensures.past c.self.invariant.1 in
    let begun : is_empty H ≡ false = rw c.pay.ensures.past c.self.invariant.2 in
    let flying : are_of_unfinished H c.pay.new.flights.flights ≡ true = rw (c.pay.ensures.past, c.pay.ensures.flights) c.self.invariant.3 in
    let short : length H < most_events = rw c.pay.ensures.past (subst (λ (v : Core). length v.past < most_events) (sym c.self.view_is) c.requires.room) in
    let lawful = lawful_kept c.pay.new.desk c.pay.ensures.stands in
    let a = after_a_control H _ (past c.control.new.desk) c.pay.new.flights.flights r.group lawful begun settled flying in
    (r.stands, a.settled, a.begun, a.flying, room_after_control H (past c.control.new.desk) _ r.group lawful settled short)

pub returns-clause-legal : goal.returns-clause-legal
returns-clause-legal c =
    let r = c.control.ensures in
    let H = past c.pay.new.desk in
    let settled : Settled H = rw c.pay.ensures.past c.self.invariant.1 in
    let begun : is_empty H ≡ false = rw c.pay.ensures.past c.self.invariant.2 in
    let flying : are_of_unfinished H c.pay.new.flights.flights ≡ true = rw (c.pay.ensures.past, c.pay.ensures.flights) c.self.invariant.3 in
    let a = after_a_control H _ (past c.control.new.desk) c.pay.new.flights.flights r.group (lawful_kept c.pay.new.desk c.pay.ensures.stands) begun settled flying in
    legal_of c.control.new.desk r.stands a.settled a.begun

pub returns-in_err-pay-clause-legal : goal.returns-in_err-pay-clause-legal
returns-in_err-pay-clause-legal c = legal_kept c.self.inside.desk c.pay.new.desk c.pay.ensures.stands c.pay.ensures.past c.self.invariant.1 c.self.invariant.2
