use Rattle.std.proofs.Common.{not, refl, ap, ◌∙◌}
use Rattle.dsql_hall_steps.proofs.Brought.{put_stopped, put_stops}
use Rattle.dsql_hall_steps.proofs.hall.Hall.hear_no_opening.Goals as goal

pub invariant_of-self : goal.invariant_of-self
invariant_of-self g c =
    put_stops _ _ _ _ _ c.self.invariant refl c.untie.ensures.was_out _ _ (λ d apart. refl) refl c.untie.ensures.now _ _ refl (λ at. absurd cc)

pub invariant_of-self-else-is_none : goal.invariant_of-self-else-is_none
invariant_of-self-else-is_none g c =
    put_stopped _ _ _ _ _ c.self.invariant refl c.untie.ensures.was_out _ _ (λ d apart. refl) refl c.untie.ensures.now (c.is_none.ensures ∙ ap not c.if-is_none.false)
