use Rattle.std.proofs.Common.{ap, inl, ◌∙◌}
use Rattle.dsql_engine_laws.specs.history.Readers.Calls.{is_busy}
use Rattle.dsql_hall_steps.proofs.Moving.{entered_on}
use Rattle.dsql_hall_steps.proofs.Stepped.{enters_alone, shown}
use Rattle.dsql_hall_steps.proofs.hall.Hall.enter.Goals as goal

pub invariant_of-self-in-Ok : goal.invariant_of-self-in-Ok
invariant_of-self-in-Ok g c =
    let was = c.self.view_is in
    entered_on _ _ _ c.args.client _ c.self.invariant (ap (λ h. h.stopped) was ∙ c.requires.runs)
    (record {
      ready = c.in-Ok.ensures.act.ready;
      handed = c.in-Ok.ensures.handed;
      course = c.in-Ok.ensures.course;
      unheard = c.in-Ok.ensures.act.unheard;
      legal = c.in-Ok.ensures.act.legal;
      trimmed = c.in-Ok.ensures.trimmed;
    })
    (ap (λ h. is_busy c.args.client h.player.past) was ∙ c.requires.free)
    c.in-Ok.ensures.enters

pub returns-in-Ok : goal.returns-in-Ok
returns-in-Ok g c =
    let on = c.self.invariant.well (ap (λ h. h.stopped) c.self.view_is ∙ c.requires.runs) in
    let alone = enters_alone c.args.client _ _ _ on.at c.in-Ok.ensures.enters c.in-Ok.ensures.act.legal.lawful in
    record { next = shown _ _ _ _ c.self.view_is c.requires.runs alone (inl c.in-Ok.ensures.enters) c.in-Ok.ensures.grows }
