use Rattle.std.proofs.Common.{◌≡◌, ◌⊎◌, inl, inr, List, Option, Some, true, sym, subst, set}
use Rattle.dsql_history.specs.journal.HandlesAndCursors.{fits_at_its_place}
use Rattle.std.specs.Prelude.{IsSomeAnd}
use Rattle.std.proofs.lemmas.Result.{IfOk-weaker, on_err_weaker}
use Rattle.dsql_wire.specs.Journaled.{Journaled, MayBeSent}
use Rattle.dsql_player_wires.specs.Asked.{LacksMemory, LacksRoom}
use Rattle.dsql_player_wires.specs.WiresFit.{slot, HearsEntry, SameHeard, Wants}
use Rattle.dsql_player_wires.proofs.Slots.{wire_here, heard_here}
use Rattle.dsql_player_wires.proofs.Staying.{one_changed}
use Rattle.dsql_player_wires.proofs.Wanted.{one_wanted}
use Rattle.dsql_player_wires.proofs.wires.Wires.perform.Goals as goal

pub perform_on-requires : goal.perform_on-requires
perform_on-requires g c =
    let p = c.args.permit in
    let ws = c.self.inside.slots.items in
    let may = λ (w : Journaled g.row.W.Denot). MayBeSent w.conn w.journal p in
    let some : IsSomeAnd (slot ws p.conn) may = subst (λ (xs : List (Option (Journaled g.row.W.Denot))). IsSomeAnd (slot xs p.conn) may) (sym c.self.view_is) c.requires in
    subst (λ (o : Option (Journaled g.row.W.Denot)). IsSomeAnd o may) (wire_here ws p.conn c.index_mut.result.now may c.in-Some.wire some c.index_mut.ensures.value c.in-Some.is) some

pub returns-clause-noted : goal.returns-clause-noted
returns-clause-noted g c =
    let p = c.args.permit in
    let ws = c.self.inside.slots.items in
    let may = λ (w : Journaled g.row.W.Denot). MayBeSent w.conn w.journal p in
    let some : IsSomeAnd (slot ws p.conn) may = subst (λ (xs : List (Option (Journaled g.row.W.Denot))). IsSomeAnd (slot xs p.conn) may) (sym c.self.view_is) c.requires in
    let here : slot ws p.conn ≡ Some c.in-Some.wire = wire_here ws p.conn c.index_mut.result.now may c.in-Some.wire some c.index_mut.ensures.value c.in-Some.is in
    IfOk-weaker c.perform_on.result _ _
    (λ heard noted. subst (λ (xs : List (Option (Journaled g.row.W.Denot))). HearsEntry g.W.Wire.told heard (slot xs p.conn) (slot (set ws p.conn (Some c.perform_on.new.wire)) p.conn)) c.self.view_is
    (heard_here g.W.Wire.told heard ws p.conn c.in-Some.wire c.perform_on.new.wire here noted))
    c.perform_on.ensures.noted

pub returns-clause-fits : goal.returns-clause-fits
returns-clause-fits g c =
    let p = c.args.permit in
    let ws = c.self.inside.slots.items in
    let may = λ (w : Journaled g.row.W.Denot). MayBeSent w.conn w.journal p in
    let some : IsSomeAnd (slot ws p.conn) may = subst (λ (xs : List (Option (Journaled g.row.W.Denot))). IsSomeAnd (slot xs p.conn) may) (sym c.self.view_is) c.requires in
    let here : slot ws p.conn ≡ Some c.in-Some.wire = wire_here ws p.conn c.index_mut.result.now may c.in-Some.wire some c.index_mut.ensures.value c.in-Some.is in
    IfOk-weaker c.perform_on.result _ _
    (λ heard fits. subst (λ (xs : List (Option (Journaled g.row.W.Denot))). IsSomeAnd (slot xs p.conn) (λ w. fits_at_its_place w.journal heard ≡ true)) c.self.view_is
    (subst (λ (o : Option (Journaled g.row.W.Denot)). IsSomeAnd o (λ w. fits_at_its_place w.journal heard ≡ true)) (sym here) fits))
    c.perform_on.ensures.fits

pub returns-clause-err : goal.returns-clause-err
returns-clause-err g c =
    let p = c.args.permit in
    let ws = c.self.inside.slots.items in
    let may = λ (w : Journaled g.row.W.Denot). MayBeSent w.conn w.journal p in
    let some : IsSomeAnd (slot ws p.conn) may = subst (λ (xs : List (Option (Journaled g.row.W.Denot))). IsSomeAnd (slot xs p.conn) may) (sym c.self.view_is) c.requires in
    let here : slot ws p.conn ≡ Some c.in-Some.wire = wire_here ws p.conn c.index_mut.result.now may c.in-Some.wire some c.index_mut.ensures.value c.in-Some.is in
    on_err_weaker c.perform_on.result
    (λ (lacks : ((c.in-Some.wire.spare ≡ 0) × SameHeard g.W.Wire.told c.in-Some.wire c.perform_on.new.wire) ⊎ Wants g.W.Wire.told p.call c.in-Some.wire c.perform_on.new.wire).
    subst (λ (xs : List (Option (Journaled g.row.W.Denot))). LacksMemory g.W.Wire.told p xs (set ws p.conn (Some c.perform_on.new.wire))) c.self.view_is
    (elim lacks [
      | inl full ↦ inl (subst (λ (o : Option (Journaled g.row.W.Denot)). LacksRoom o) (sym here) full.0, one_changed g.W.Wire.told ws p.conn c.in-Some.wire c.perform_on.new.wire here full.1)
      | inr wants ↦ inr (one_wanted g.W.Wire.told p ws c.in-Some.wire c.perform_on.new.wire here wants)
    ]))
    c.perform_on.ensures.err
