use Rattle.std.proofs.Common.{ap, sym, ◌∙◌}
use Rattle.dsql_engine_laws.specs.history.Rules.House.{chore_due}
use Rattle.dsql_hall_steps.proofs.Chores.{connects_or_shuts}
use Rattle.dsql_hall_steps.proofs.Out.{none_of}
use Rattle.dsql_hall_steps.proofs.hall.Hall.house_next.Goals as goal

pub send_chore-requires-clause-first : goal.send_chore-requires-clause-first
send_chore-requires-clause-first g c κs within = ap (λ p. chore_due p.past) c.chore.ensures.same ∙ c.in-Some-chore.ensures.some.0

pub send_chore-requires-clause-kind : goal.send_chore-requires-clause-kind
send_chore-requires-clause-kind g c κs within =
    let on = c.self.invariant.well (none_of _ (sym c.is_some.ensures ∙ c.if-is_some.false)) in
    connects_or_shuts _ _ c.in-Some-chore.permit on.ready.legal.lawful c.self.invariant.keeps.running c.in-Some-chore.ensures.some.1
