use Rattle.std.proofs.Common.{Err, arith, ap, refl, sym, subst, ◌∙◌}
use Rattle.dsql_hall_bonds.specs.Work.{find}
use Rattle.dsql_hall_steps.specs.Halls.{house}
use Rattle.dsql_hall_steps.specs.House.{IsShutting, TellsShut}
use Rattle.dsql_hall_steps.proofs.Brought.{shut_answered, shut_heard}
use Rattle.dsql_hall_steps.proofs.ChoreAnswered.{answers_chore, fleet_goes_on, own_renewed}
use Rattle.dsql_hall_steps.proofs.Heard.{dropped_home}
use Rattle.dsql_hall_steps.proofs.Out.{none_of}
use Rattle.dsql_hall_steps.proofs.Returned.{back_conn, back_stopped, back_stops, has_room, has_space}
use Rattle.dsql_hall_steps.proofs.Recorded.{shut_tells}
use Rattle.dsql_hall_steps.proofs.hall.Hall.hear_shut.Goals as goal

pub put-requires-clause-room : goal.put-requires-clause-room
put-requires-clause-room g c =
    has_room _ _ _ _ _ c.self.invariant (back_conn _ _ _ _ _ c.back.invariant c.entry.ensures) c.untie.ensures.was_out (omega arith)

pub put-requires-clause-empty : goal.put-requires-clause-empty
put-requires-clause-empty g c = has_space _ _ _ _ _ c.self.invariant (back_conn _ _ _ _ _ c.back.invariant c.entry.ensures) c.untie.ensures.was_out

pub invariant_of-self : goal.invariant_of-self
invariant_of-self g c =
    back_stopped _ _ _ _ _ c.self.invariant (back_conn _ _ _ _ _ c.back.invariant c.entry.ensures) c.untie.ensures.was_out _ _ _ c.put.ensures c.untie.ensures.now
    (sym c.is_some.ensures ∙ c.if-is_some.true)

pub take_in-requires-clause-answers : goal.take_in-requires-clause-answers
take_in-requires-clause-answers g c =
    answers_chore _ _ _ _ _ c.self.invariant (none_of _ (sym c.is_some.ensures ∙ c.if-is_some.false))
    (shut_answered _ _ _ _ _ c.back.invariant (subst (λ b. IsShutting b.work) (sym c.back.view_is) c.requires.shut) c.untie.ensures.was_out)

pub invariant_of-self-in-Ok : goal.invariant_of-self-in-Ok
invariant_of-self-in-Ok g c =
    shut_heard _ _ _ c.self.invariant (none_of _ (sym c.is_some.ensures ∙ c.if-is_some.false)) _ _ _ _ _ c.back.invariant (subst (λ b. IsShutting b.work) (sym c.back.view_is) c.requires.shut) c.untie.ensures.was_out
    c.untie.ensures.now c.renew-own.ensures.was_out c.renew-own.ensures.out
    (record {
      player = c.in-Ok.ensures.player;
      step = c.in-Ok.ensures.step;
      ready = c.in-Ok.ensures.ready;
      course = c.in-Ok.ensures.course;
    })

pub put-requires-in-Err-clause-room : goal.put-requires-in-Err-clause-room
put-requires-in-Err-clause-room g c =
    has_room _ _ _ _ _ c.self.invariant (back_conn _ _ _ _ _ c.back.invariant c.entry.ensures) c.untie.ensures.was_out (omega arith)

pub put-requires-in-Err-clause-empty : goal.put-requires-in-Err-clause-empty
put-requires-in-Err-clause-empty g c = has_space _ _ _ _ _ c.self.invariant (back_conn _ _ _ _ _ c.back.invariant c.entry.ensures) c.untie.ensures.was_out

pub invariant_of-self-in-Err : goal.invariant_of-self-in-Err
invariant_of-self-in-Err g c =
    back_stops _ _ _ _ _ c.self.invariant (back_conn _ _ _ _ _ c.back.invariant c.entry.ensures) c.untie.ensures.was_out _ _ _ c.put-in-Err.ensures c.untie.ensures.now _ _ c.in-Err.ensures.kept
    (λ at. c.in-Err.ensures.full (ap Err at))

pub returns-in-Ok-clause-own : goal.returns-in-Ok-clause-own
returns-in-Ok-clause-own g c =
    own_renewed _ _ _ _ _ c.self.invariant (none_of _ (sym c.is_some.ensures ∙ c.if-is_some.false))
    (shut_answered _ _ _ _ _ c.back.invariant (subst (λ b. IsShutting b.work) (sym c.back.view_is) c.requires.shut) c.untie.ensures.was_out)
    _
    (record {
      player = c.in-Ok.ensures.player;
      step = c.in-Ok.ensures.step;
      ready = c.in-Ok.ensures.ready;
      course = c.in-Ok.ensures.course;
    })
    _ (ap (find house) (sym c.untie.ensures.now) ∙ c.renew-own.ensures.was_out) _ c.renew-own.ensures.bond c.requires.own

pub returns-in-Ok-clause-told : goal.returns-in-Ok-clause-told
returns-in-Ok-clause-told g c = λ runs.
    let goes =
    fleet_goes_on _ _ _ _ _ c.self.invariant runs (shut_answered _ _ _ _ _ c.back.invariant (subst (λ b. IsShutting b.work) (sym c.back.view_is) c.requires.shut) c.untie.ensures.was_out) _
    (record {
      player = c.in-Ok.ensures.player;
      step = c.in-Ok.ensures.step;
      ready = c.in-Ok.ensures.ready;
      course = c.in-Ok.ensures.course;
    })
    _ (ap (find house) (sym c.untie.ensures.now) ∙ c.renew-own.ensures.was_out) _ c.renew-own.ensures.bond in
    let shuts = subst (λ b. IsShutting b.work) (sym c.back.view_is) c.requires.shut in
    subst (λ b. TellsShut g.W.Wire.told g.K.Race.terms.telling g.K.Race.terms.made c.args.own.past c.renew-own.result.past b.wire) c.back.view_is (shut_tells _ _ _ _ _ _ c.back.invariant shuts goes)

pub returns-then-is_some-clause-dropped : goal.returns-then-is_some-clause-dropped
returns-then-is_some-clause-dropped g c = λ _.
    dropped_home _ _ _ _ _ _ _ c.self.view_is c.back.view_is (back_conn _ _ _ _ _ c.back.invariant c.entry.ensures) c.put.ensures c.untie.ensures.now _ _ refl (λ _. refl)
