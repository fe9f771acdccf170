use Rattle.std.proofs.Common.{arith, ap, refl, ◌∙◌}
use Rattle.dsql_player_wires.specs.Seats.{seat}
use Rattle.dsql_hall_steps.proofs.Carrying.{few_away, none_is_out}
use Rattle.dsql_hall_steps.proofs.Sent.{sent_is, sent_on}
use Rattle.dsql_hall_steps.proofs.hall.Hall.send_out.Goals as goal

pub tie-bond-requires-clause-work : goal.tie-bond-requires-clause-work
tie-bond-requires-clause-work g c = λ _ _. refl

pub tie-bond-requires-clause-free : goal.tie-bond-requires-clause-free
tie-bond-requires-clause-free g c = λ _ _. none_is_out _ _ _ _ _ c.self.invariant.back c.take-wire.ensures.wire

pub overflow_add-self : goal.overflow_add-self
overflow_add-self g c = let few = few_away _ _ _ c.self.invariant.back in omega (arith, few)

pub invariant_of-self : goal.invariant_of-self
invariant_of-self g c =
    let was = c.self.view_is in
    sent_on _ _ _ c.args.client _ _ c.self.invariant (ap (λ h. h.stopped) was ∙ c.requires.runs) (ap (λ h. (seat h.player.seats c.args.client).permit) was ∙ c.requires.leave) c.take-wire.ensures.wire
    (omega arith) _ _ c.take-wire.ensures.after c.tie-bond.ensures.out

pub invariant_of-result : goal.invariant_of-result
invariant_of-result g c =
    let was = c.self.view_is in
    sent_is _ _ _ c.args.client _ _ c.self.invariant (ap (λ h. h.stopped) was ∙ c.requires.runs) (ap (λ h. (seat h.player.seats c.args.client).permit) was ∙ c.requires.leave) c.take-wire.ensures.wire
    (omega arith) _ c.tie-bond.ensures.bond
