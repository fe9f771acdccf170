use Rattle.std.proofs.Common.{inr, sym, ◌∙◌}
use Rattle.dsql_hall_steps.proofs.Housed.{rests_then, waits_for_client}
use Rattle.dsql_hall_steps.proofs.hall.Hall.rest.Goals as goal

pub returns-then-is_some : goal.returns-then-is_some
returns-then-is_some g c = record { does = waits_for_client _ _ _ c.self.view_is c.requires.goes_on c.requires.set c.requires.none c.next_client.ensures (sym c.is_some.ensures ∙ c.if-is_some.true) }

pub returns : goal.returns
returns g c =
    record { does = inr (inr (inr (rests_then _ _ _ c.self.view_is c.requires.set c.requires.none c.next_client.ensures (sym c.is_some.ensures ∙ c.if-is_some.false)))) }
