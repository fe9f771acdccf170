use Rattle.dsql_hall_steps.proofs.Housed.{limit_does, limit_set}
use Rattle.dsql_hall_steps.proofs.hall.Hall.set_limit.Goals as goal

pub invariant_of-self : goal.invariant_of-self
invariant_of-self g c =
    limit_set _ _ _ _ _ c.args.control _ c.self.invariant c.self.view_is c.requires.goes_on c.requires.first c.pop_front-set.ensures.rest
    (record {
      tells = c.in-Ok.ensures.tells;
      handed = c.in-Ok.ensures.handed;
      course = c.in-Ok.ensures.course;
      ready = c.in-Ok.ensures.act.ready;
      unheard = c.in-Ok.ensures.act.unheard;
      legal = c.in-Ok.ensures.act.legal;
      trimmed = c.in-Ok.ensures.trimmed;
    })

pub returns-in-Ok : goal.returns-in-Ok
returns-in-Ok g c = record {
  does = limit_does _ _ _ _ c.args.control c.self.view_is c.requires.goes_on c.requires.first c.pop_front-set.ensures.rest
      (record {
        tells = c.in-Ok.ensures.tells;
        handed = c.in-Ok.ensures.handed;
        course = c.in-Ok.ensures.course;
        ready = c.in-Ok.ensures.act.ready;
        unheard = c.in-Ok.ensures.act.unheard;
        legal = c.in-Ok.ensures.act.legal;
        trimmed = c.in-Ok.ensures.trimmed;
      });
}
