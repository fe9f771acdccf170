use Rattle.std.proofs.Common.{ap, sym, ◌∙◌}
use Rattle.dsql_engine_laws.specs.history.Readers.Clients.{call_of}
use Rattle.dsql_engine_laws.specs.laws_ends.Over.{may_move}
use Rattle.dsql_hall_steps.proofs.Stepped.{waits_for_turn}
use Rattle.dsql_hall_steps.proofs.hall.Hall.go_on.Goals as goal

pub wake-requires-clause-moves : goal.wake-requires-clause-moves
wake-requires-clause-moves g c = λ _ _.
    sym (ap (λ h. may_move h.player.past h.player.flights (call_of h.player.past c.args.client)) c.self.view_is) ∙ (sym c.may_move.ensures ∙ c.if-may_move.true)

pub returns-else-may_move : goal.returns-else-may_move
returns-else-may_move g c = record {
  next = waits_for_turn _ _ _ c.self.view_is c.requires.runs c.requires.busy (sym c.has_leave.ensures ∙ c.if-has_leave.false) (sym c.may_move.ensures ∙ c.if-may_move.false);
}
