use Rattle.std.proofs.Common.{arith, refl}
use Rattle.dsql_hall_steps.proofs.Carrying.{few_away, slot_emptied}
use Rattle.dsql_hall_steps.proofs.Chores.{errand_is, has_wire, may_go_out, none_out, shut_on, shutting_is}
use Rattle.dsql_hall_steps.proofs.Housed.{shut_out, taken_out}
use Rattle.dsql_hall_steps.proofs.hall.Hall.send_shut.Goals as goal

pub take-wire-requires : goal.take-wire-requires
take-wire-requires g c =
    has_wire _ _ _ _ (may_go_out _ _ _ _ c.args.permit c.self.invariant c.self.view_is c.requires.goes_on c.requires.free c.requires.due (omega arith)) c.requires.shuts

pub tie-bond-requires-clause-work : goal.tie-bond-requires-clause-work
tie-bond-requires-clause-work g c = λ _ _. refl

pub tie-bond-requires-clause-free : goal.tie-bond-requires-clause-free
tie-bond-requires-clause-free g c = λ _ _.
    none_out _ _ _ _ (may_go_out _ _ _ _ c.args.permit c.self.invariant c.self.view_is c.requires.goes_on c.requires.free c.requires.due (omega arith))

pub overflow_add-self : goal.overflow_add-self
overflow_add-self g c = let few = few_away _ _ _ c.self.invariant.back in omega (arith, few)

pub invariant_of-self : goal.invariant_of-self
invariant_of-self g c =
    let may = may_go_out _ _ _ _ c.args.permit c.self.invariant c.self.view_is c.requires.goes_on c.requires.free c.requires.due (omega arith) in
    shut_on _ _ _ _ may c.requires.shuts _ c.take-wire.ensures.wire _ _ c.take-wire.ensures.after c.tie-bond.ensures.out

pub invariant_of-result : goal.invariant_of-result
invariant_of-result g c =
    let may = may_go_out _ _ _ _ c.args.permit c.self.invariant c.self.view_is c.requires.goes_on c.requires.free c.requires.due (omega arith) in
    errand_is _ _ _ _ may c.requires.shuts _ c.take-wire.ensures.wire _ c.tie-bond.ensures.bond

pub returns : goal.returns
returns g c =
    let may = may_go_out _ _ _ _ c.args.permit c.self.invariant c.self.view_is c.requires.goes_on c.requires.free c.requires.due (omega arith) in
    let changes = slot_emptied _ _ _ c.take-wire.ensures.after in
    record {
      does = (
        taken_out _ _ c.args.permit _ _ _ c.self.view_is c.requires.goes_on c.requires.set c.requires.first c.tie-bond.ensures.bond c.tie-bond.ensures.out changes.0 changes.1,
        shutting_is _ _ _ _ may c.requires.shuts _ c.tie-bond.ensures.bond,
        shut_out _ _ c.args.permit _ _ c.self.view_is c.tie-bond.ensures.bond c.take-wire.ensures.wire,
      );
    }
