use Rattle.std.proofs.Common.{Err, arith, ap, sym, subst, ◌∙◌}
use Rattle.dsql_hall_bonds.specs.Work.{find}
use Rattle.dsql_hall_steps.specs.Halls.{house}
use Rattle.dsql_hall_steps.specs.House.{TellsConnect}
use Rattle.dsql_hall_steps.proofs.Brought.{found_conn_of, opening_answered, opening_heard, put_stopped, put_stops}
use Rattle.dsql_hall_steps.proofs.ChoreAnswered.{answers_chore, fleet_goes_on, own_renewed}
use Rattle.dsql_hall_steps.proofs.Out.{none_of}
use Rattle.dsql_hall_steps.proofs.Returned.{has_room, has_space}
use Rattle.dsql_hall_steps.proofs.Recorded.{opening_tells}
use Rattle.dsql_hall_steps.proofs.hall.Hall.hear_opening.Goals as goal

pub put_any-requires-clause-room : goal.put_any-requires-clause-room
put_any-requires-clause-room g c =
    has_room _ _ _ _ _ c.self.invariant (found_conn_of _ _ _ _ _ c.opened.invariant c.entry.ensures) c.untie.ensures.was_out (omega arith)

pub put_any-requires-clause-empty : goal.put_any-requires-clause-empty
put_any-requires-clause-empty g c = has_space _ _ _ _ _ c.self.invariant (found_conn_of _ _ _ _ _ c.opened.invariant c.entry.ensures) c.untie.ensures.was_out

pub invariant_of-self : goal.invariant_of-self
invariant_of-self g c =
    put_stopped _ _ _ _ _ c.self.invariant (found_conn_of _ _ _ _ _ c.opened.invariant c.entry.ensures) c.untie.ensures.was_out _ _ c.put_any.ensures.others c.put_any.ensures.many c.untie.ensures.now
    (sym c.is_some.ensures ∙ c.if-is_some.true)

pub take_in-requires-clause-answers : goal.take_in-requires-clause-answers
take_in-requires-clause-answers g c =
    answers_chore _ _ _ _ _ c.self.invariant (none_of _ (sym c.is_some.ensures ∙ c.if-is_some.false)) (opening_answered _ _ _ _ _ c.opened.invariant c.untie.ensures.was_out)

pub invariant_of-self-in-Ok : goal.invariant_of-self-in-Ok
invariant_of-self-in-Ok g c =
    opening_heard _ _ _ c.self.invariant (none_of _ (sym c.is_some.ensures ∙ c.if-is_some.false)) _ _ _ _ _ _ _ c.opened.invariant c.untie.ensures.was_out (found_conn_of _ _ _ _ _ c.opened.invariant c.entry.ensures)
    c.untie.ensures.now c.renew.ensures.was_out c.renew.ensures.out
    (record {
      player = c.in-Ok.ensures.player;
      step = c.in-Ok.ensures.step;
      ready = c.in-Ok.ensures.ready;
      course = c.in-Ok.ensures.course;
    })
    c.put_any.ensures.here c.put_any.ensures.others c.put_any.ensures.many

pub invariant_of-self-in-Err : goal.invariant_of-self-in-Err
invariant_of-self-in-Err g c =
    put_stops _ _ _ _ _ c.self.invariant (found_conn_of _ _ _ _ _ c.opened.invariant c.entry.ensures) c.untie.ensures.was_out _ _ c.put_any.ensures.others c.put_any.ensures.many c.untie.ensures.now _ _ c.in-Err.ensures.kept
    (λ at. c.in-Err.ensures.full (ap Err at))

pub returns-in-Ok-clause-own : goal.returns-in-Ok-clause-own
returns-in-Ok-clause-own g c =
    own_renewed _ _ _ _ _ c.self.invariant (none_of _ (sym c.is_some.ensures ∙ c.if-is_some.false)) (opening_answered _ _ _ _ _ c.opened.invariant c.untie.ensures.was_out) _
    (record {
      player = c.in-Ok.ensures.player;
      step = c.in-Ok.ensures.step;
      ready = c.in-Ok.ensures.ready;
      course = c.in-Ok.ensures.course;
    })
    _ (ap (find house) (sym c.untie.ensures.now) ∙ c.renew.ensures.was_out) _ c.renew.ensures.bond c.requires.own

pub returns-in-Ok-clause-told : goal.returns-in-Ok-clause-told
returns-in-Ok-clause-told g c = λ runs.
    let goes =
    fleet_goes_on _ _ _ _ _ c.self.invariant runs (opening_answered _ _ _ _ _ c.opened.invariant c.untie.ensures.was_out) _
    (record {
      player = c.in-Ok.ensures.player;
      step = c.in-Ok.ensures.step;
      ready = c.in-Ok.ensures.ready;
      course = c.in-Ok.ensures.course;
    })
    _ (ap (find house) (sym c.untie.ensures.now) ∙ c.renew.ensures.was_out) _ c.renew.ensures.bond in
    subst (λ o. TellsConnect g.K.Race.terms.made c.args.own.past c.renew.result.past o.entry) c.opened.view_is (opening_tells _ _ _ _ _ _ _ c.opened.invariant goes)
