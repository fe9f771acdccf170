use Rattle.std.proofs.Common.{Err, ap, refl, sym, ◌∙◌}
use Rattle.dsql_hall_steps.proofs.Answered.{answers_leave}
use Rattle.dsql_hall_steps.proofs.Heard.{dropped_home, no_reason, taken_home}
use Rattle.dsql_hall_steps.proofs.Out.{none_of}
use Rattle.dsql_hall_steps.proofs.Returned.{back_conn, back_heard, back_stopped, back_stops, has_room, has_space, it_counts, its_number}
use Rattle.dsql_hall_steps.proofs.hall.Hall.hear.Goals as goal

pub overflow_sub-self : goal.overflow_sub-self
overflow_sub-self g c = it_counts _ _ _ c.back.inside.bond _ c.self.invariant refl c.untie.ensures.was_out

pub put-requires : goal.put-requires
put-requires g c =
    let its = back_conn _ _ _ _ _ c.back.invariant c.entry.ensures in
    record {
      room = has_room _ _ _ _ _ c.self.invariant its c.untie.ensures.was_out (its_number _ _ _ c.back.invariant.work its);
      empty = has_space _ _ _ _ _ c.self.invariant its c.untie.ensures.was_out;
    }

pub invariant_of-self : goal.invariant_of-self
invariant_of-self g c =
    let its = back_conn _ _ _ _ _ c.back.invariant c.entry.ensures in
    back_stopped _ _ _ _ _ c.self.invariant its c.untie.ensures.was_out _ _ _ c.put.ensures c.untie.ensures.now (sym c.is_some.ensures ∙ c.if-is_some.true)

pub take_in-requires : goal.take_in-requires
take_in-requires g c =
    let runs = none_of _ (sym c.is_some.ensures ∙ c.if-is_some.false) in
    let on = c.self.invariant.well runs in
    record {
      ready = on.ready;
      answers = answers_leave _ _ _ _ c.self.invariant runs c.back.invariant c.untie.ensures.was_out (λ none. c.requires.of_a_call (sym (ap (λ b. b.work.permit.call_no) c.back.view_is) ∙ none));
    }

pub invariant_of-self-in-Ok : goal.invariant_of-self-in-Ok
invariant_of-self-in-Ok g c =
    back_heard _ _ _ _ _ _ _ _ c.self.invariant
    (none_of _ (sym c.is_some.ensures ∙ c.if-is_some.false))
    c.back.invariant
    c.untie.ensures.was_out
    (λ none. c.requires.of_a_call (sym (ap (λ b. b.work.permit.call_no) c.back.view_is) ∙ none))
    (sym (ap (λ e. e.conn) c.entry.ensures))
    c.put.ensures
    c.untie.ensures.now
    (record {
      past = c.in-Ok.ensures.past;
      hears = c.in-Ok.ensures.hears;
      handed = c.in-Ok.ensures.handed;
      ready = c.in-Ok.ensures.ready;
      course = c.in-Ok.ensures.course;
      legal = c.in-Ok.ensures.legal;
      trimmed = c.in-Ok.ensures.trimmed;
    })

pub invariant_of-self-in-Err : goal.invariant_of-self-in-Err
invariant_of-self-in-Err g c =
    let its = back_conn _ _ _ _ _ c.back.invariant c.entry.ensures in
    back_stops _ _ _ _ _ c.self.invariant its c.untie.ensures.was_out _ _ _ c.put.ensures c.untie.ensures.now _ _ c.in-Err.ensures.kept (λ at. c.in-Err.ensures.full (ap Err at))

pub returns-then-is_some-clause-dropped : goal.returns-then-is_some-clause-dropped
returns-then-is_some-clause-dropped g c = λ _.
    let its = back_conn _ _ _ _ _ c.back.invariant c.entry.ensures in
    dropped_home _ _ _ _ _ _ _ c.self.view_is c.back.view_is its c.put.ensures c.untie.ensures.now _ _ refl (λ _. refl)

pub returns-in-Ok-clause-heard : goal.returns-in-Ok-clause-heard
returns-in-Ok-clause-heard g c = λ _.
    let its = back_conn _ _ _ _ _ c.back.invariant c.entry.ensures in
    taken_home _ _ _ _ _ _ _ c.self.view_is c.back.view_is its c.put.ensures c.untie.ensures.now _ c.in-Ok.ensures.past

pub returns-in-Err-clause-dropped : goal.returns-in-Err-clause-dropped
returns-in-Err-clause-dropped g c = λ _.
    let its = back_conn _ _ _ _ _ c.back.invariant c.entry.ensures in
    dropped_home _ _ _ _ _ _ _ c.self.view_is c.back.view_is its c.put.ensures c.untie.ensures.now _ _ c.in-Err.ensures.kept (no_reason _ _ (sym c.is_some.ensures ∙ c.if-is_some.false))
