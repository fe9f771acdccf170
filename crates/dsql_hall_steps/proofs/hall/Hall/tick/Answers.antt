use Rattle.std.proofs.Common.{sym, ◌∙◌}
use Rattle.dsql_hall_steps.proofs.Out.{none_of}
use Rattle.dsql_hall_steps.proofs.Setting.{ticked_on}
use Rattle.dsql_hall_steps.proofs.hall.Hall.tick.Goals as goal

pub invariant_of-self-in-Ok : goal.invariant_of-self-in-Ok
invariant_of-self-in-Ok g c =
    ticked_on _ _ _ _ c.args.now c.self.invariant (none_of _ (sym c.is_some.ensures ∙ c.if-is_some.false))
    (record {
      tells = c.in-Ok.ensures.tells;
      handed = c.in-Ok.ensures.handed;
      course = c.in-Ok.ensures.course;
      ready = c.in-Ok.ensures.act.ready;
      unheard = c.in-Ok.ensures.act.unheard;
      legal = c.in-Ok.ensures.act.legal;
      trimmed = c.in-Ok.ensures.trimmed;
    })
