use Rattle.std.proofs.Common.{arith, inl, inr, refl, ◌∙◌}
use Rattle.dsql_hall_steps.proofs.Carrying.{few_away}
use Rattle.dsql_hall_steps.proofs.Chores.{connect_on, may_go_out, no_wire, none_out, opening_is}
use Rattle.dsql_hall_steps.proofs.Housed.{lacks_slot, room_lacks, taken_out}
use Rattle.dsql_hall_steps.proofs.hall.Hall.send_connect.Goals as goal

pub invariant_of-self : goal.invariant_of-self
invariant_of-self g c = room_lacks _ _ _ _ c.self.invariant c.make_room.ensures.same c.make_room.ensures.many

pub tie-bond-requires-clause-work : goal.tie-bond-requires-clause-work
tie-bond-requires-clause-work g c = λ _ _. refl

pub tie-bond-requires-clause-free : goal.tie-bond-requires-clause-free
tie-bond-requires-clause-free g c = λ _ _.
    none_out _ _ _ _ (may_go_out _ _ _ _ c.args.permit c.self.invariant c.self.view_is c.requires.goes_on c.requires.free c.requires.due (omega arith))

pub overflow_add-self : goal.overflow_add-self
overflow_add-self g c = let few = few_away _ _ _ c.self.invariant.back in omega (arith, few)

pub invariant_of-self-2 : goal.invariant_of-self-2
invariant_of-self-2 g c =
    let may = may_go_out _ _ _ _ c.args.permit c.self.invariant c.self.view_is c.requires.goes_on c.requires.free c.requires.due (omega arith) in
    connect_on _ _ _ _ may c.requires.connects _ _ c.make_room.ensures.same c.make_room.ensures.many c.in-Ok.ensures.room c.tie-bond.ensures.out

pub invariant_of-result : goal.invariant_of-result
invariant_of-result g c =
    let may = may_go_out _ _ _ _ c.args.permit c.self.invariant c.self.view_is c.requires.goes_on c.requires.free c.requires.due (omega arith) in
    opening_is _ _ _ _ may c.requires.connects _ c.tie-bond.ensures.bond

pub returns : goal.returns
returns g c =
    let may = may_go_out _ _ _ _ c.args.permit c.self.invariant c.self.view_is c.requires.goes_on c.requires.free c.requires.due (omega arith) in
    record {
      does = taken_out _ _ c.args.permit _ _ _ c.self.view_is c.requires.goes_on c.requires.set c.requires.first c.tie-bond.ensures.bond c.tie-bond.ensures.out
          (record { others = λ d apart. c.make_room.ensures.same d; many = c.make_room.ensures.many })
          (c.make_room.ensures.same c.args.permit.conn ∙ no_wire _ _ _ _ may c.requires.connects);
    }

pub returns-in-Err : goal.returns-in-Err
returns-in-Err g c = record { does = inr (inr (inl (lacks_slot _ _ _ c.self.view_is c.requires.goes_on c.make_room.ensures.same))) }
