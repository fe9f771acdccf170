use Rattle.std.proofs.Common.{refl, sym, ◌∙◌}
use Rattle.dsql_hall_steps.proofs.Returned.{back_stopped, back_stops, has_room, has_space, it_counts, its_number, unheard_conn}
use Rattle.dsql_hall_steps.proofs.hall.Hall.hear_nothing.Goals as goal

pub overflow_sub-self : goal.overflow_sub-self
overflow_sub-self g c = it_counts _ _ _ c.unheard.inside.bond _ c.self.invariant refl c.untie.ensures.was_out

pub put-requires : goal.put-requires
put-requires g c =
    let its = unheard_conn _ _ c.unheard.invariant.1 c.unheard.invariant.0 in
    record {
      room = has_room _ _ _ _ _ c.self.invariant its c.untie.ensures.was_out (its_number _ _ _ c.unheard.invariant.1.work its);
      empty = has_space _ _ _ _ _ c.self.invariant its c.untie.ensures.was_out;
    }

pub invariant_of-self : goal.invariant_of-self
invariant_of-self g c =
    let its = unheard_conn _ _ c.unheard.invariant.1 c.unheard.invariant.0 in
    back_stopped _ _ _ _ _ c.self.invariant its c.untie.ensures.was_out _ _ _ c.put.ensures c.untie.ensures.now (sym c.is_some.ensures ∙ c.if-is_some.true)

pub invariant_of-self-2 : goal.invariant_of-self-2
invariant_of-self-2 g c =
    let its = unheard_conn _ _ c.unheard.invariant.1 c.unheard.invariant.0 in
    back_stops _ _ _ _ _ c.self.invariant its c.untie.ensures.was_out _ _ _ c.put.ensures c.untie.ensures.now _ _ refl (λ at. absurd cc)
