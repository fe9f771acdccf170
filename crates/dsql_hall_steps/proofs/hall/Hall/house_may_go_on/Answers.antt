use Rattle.std.proofs.Common.{sym, ◌∙◌}
use Rattle.dsql_hall_steps.proofs.MayGoOn.{has_room, house_moves, is_due, none_to_set}
use Rattle.dsql_hall_steps.proofs.hall.Hall.house_may_go_on.Goals as goal

pub returns-clause-may : goal.returns-clause-may
returns-clause-may g c =
    let h = c.self.inside in
    house_moves _ _ _ c.self.view_is (sym c.is_some.ensures ∙ c.if-is_some.false) c.if-self.false (sym c.is_some-2.ensures ∙ c.if-is_some-2.false)
    (has_room c.check_room.result h.player.past (sym c.is_err.ensures.value ∙ c.if-is_err.false) c.check_room.ensures.ok)
    (none_to_set h.settings.items _ h.settings.ok.0 (sym c.is_empty.ensures ∙ c.if-not-is_empty.false))
    (c.is_some-3.ensures ∙ is_due h.player.past c.chore.result c.chore.ensures.some c.chore.ensures.none)
