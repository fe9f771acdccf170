use Rattle.std.proofs.Common.{◌≡◌, Some, None, sym, ap, subst, ◌∙◌, arith}
use Rattle.dsql_engine_going.specs.history.Readers.Pool.{place}
use Rattle.dsql_engine_going.specs.history.Rules.Flights.{is_in_flight}
use Rattle.dsql_engine_going.specs.desk.Desk.{past, Stands}
use Rattle.dsql_engine_going.specs.Stepping.{GoesOnOrRests}
use Rattle.dsql_engine_going.specs.declared.next.Next.TheVariants.{Quiet}
use Rattle.dsql_engine_hearing.specs.Hearing.{lent_to}
use Rattle.dsql_engine_hearing.proofs.Lent.{rests_at_zero}
use Rattle.dsql_engine_hearing.proofs.Steps.{house_group, landed_apart, layer_calls, lent_group}
use Rattle.dsql_engine_hearing.proofs.Welcome.{may_hear}
use Rattle.dsql_engine_hearing.proofs.hear.hear_answer.Goals as goal

pub hear_lent-requires-clause-may : goal.hear_lent-requires-clause-may
unfolding Stands
hear_lent-requires-clause-may c =
    may_hear (past c.args.desk.now) c.args.entry c.args.ready c.requires.pays.stands.tables.lawful c.requires.may.settled c.requires.may.begun c.requires.welcome c.requires.decides

pub hear_lent-requires-clause-lent : goal.hear_lent-requires-clause-lent
hear_lent-requires-clause-lent c = sym (c.lent_to.ensures ∙ ap lent_to c.place.ensures) ∙ c.in-Some.is

pub hear_lent-requires-clause-parked : goal.hear_lent-requires-clause-parked
hear_lent-requires-clause-parked c =
    let n = c.args.entry.call_no in
    ap (is_in_flight n) c.land.ensures.flights ∙ landed_apart n c.args.flights.now.flights

pub hear_lent-requires-clause-spare : goal.hear_lent-requires-clause-spare
hear_lent-requires-clause-spare c = let some = c.requires.may.spare in let kept = c.land.ensures.spare in omega (arith, some, kept)

pub returns-in-Some-clause-reaches : goal.returns-in-Some-clause-reaches
returns-in-Some-clause-reaches c =
    let H = past c.args.desk.now in
    let e = c.args.entry in
    let lent : lent_to (place H e.conn) ≡ Some c.in-Some.borrower = sym (c.lent_to.ensures ∙ ap lent_to c.place.ensures) ∙ c.in-Some.is in
    let r = c.hear_lent.ensures.reaches in
    record { stands = r.stands; settled = r.settled; group = r.group ∙ sym (lent_group H e (place H e.conn) c.in-Some.borrower lent) }

pub returns-in-Some-clause-goes : goal.returns-in-Some-clause-goes
returns-in-Some-clause-goes c =
    let n = c.args.entry.call_no in
    subst (λ before. GoesOnOrRests (past c.hear_lent.new.desk) before c.hear_lent.new.flights.flights n c.hear_lent.result) c.land.ensures.flights c.hear_lent.ensures.goes

pub hear_house-requires-clause-may : goal.hear_house-requires-clause-may
unfolding Stands
hear_house-requires-clause-may c =
    may_hear (past c.args.desk.now) c.args.entry c.args.ready c.requires.pays.stands.tables.lawful c.requires.may.settled c.requires.may.begun c.requires.welcome c.requires.decides

pub hear_house-requires-clause-house : goal.hear_house-requires-clause-house
hear_house-requires-clause-house c = sym (c.lent_to.ensures ∙ ap lent_to c.place.ensures) ∙ c.in-None.is

pub returns-in-None-clause-reaches : goal.returns-in-None-clause-reaches
returns-in-None-clause-reaches c =
    let H = past c.args.desk.now in
    let e = c.args.entry in
    let house : lent_to (place H e.conn) ≡ None = sym (c.lent_to.ensures ∙ ap lent_to c.place.ensures) ∙ c.in-None.is in
    let r = c.hear_house.ensures.reaches in
    record { stands = r.stands; settled = r.settled; group = r.group ∙ sym (house_group H e (place H e.conn) house) }

pub returns-in-None-clause-goes : goal.returns-in-None-clause-goes
unfolding Stands
returns-in-None-clause-goes c =
    let H = past c.args.desk.now in
    let e = c.args.entry in
    let house : lent_to (place H e.conn) ≡ None = sym (c.lent_to.ensures ∙ ap lent_to c.place.ensures) ∙ c.in-None.is in
    let none = layer_calls H e c.requires.pays.stands.tables.lawful c.requires.welcome house in
    subst (λ before. GoesOnOrRests (past c.hear_house.new.desk) before c.land.new.self.flights e.call_no Quiet) c.land.ensures.flights (rests_at_zero (past c.hear_house.new.desk) c.land.new.self.flights e.call_no none)
