use Rattle.std.proofs.Common.{sym, ◌∙◌}
use Rattle.dsql_hall_steps.proofs.MayGoOn.{client_moves}
use Rattle.dsql_hall_steps.proofs.hall.Hall.client_may_go_on.Goals as goal

pub returns : goal.returns
returns g c =
    client_moves _ _ _ _ c.self.view_is (sym c.is_some.ensures ∙ c.if-is_some.false) c.if-self.false (sym c.has_call.ensures ∙ c.if-not-has_call.false) (sym c.has_leave.ensures ∙ c.if-has_leave.false) c.may_move.ensures
