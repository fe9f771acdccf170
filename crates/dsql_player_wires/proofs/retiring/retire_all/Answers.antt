use Rattle.std.proofs.Common.{◌≡◌, ◌∙◌, [], ap, sym, arith, rules}
use Rattle.std.specs.Prelude.{reverse}
use Rattle.dsql_player_wires.specs.Stopped.{RecordsJournal}
use Rattle.dsql_player_wires.specs.Told.{retired_from}
use Rattle.dsql_player_wires.proofs.GivenBack.{empty_unasked, retired_last}
use Rattle.dsql_player_wires.proofs.Slots.{each_before, each_of_none}
use Rattle.dsql_player_wires.proofs.retiring.retire_all.Goals as goal

pub loop-slot-preserved : goal.loop-slot-preserved
loop-slot-preserved g c =
    let told = g.F.Wire.Wire.told in
    record {
      few = omega arith;
      retired =
          retired_last told c.loop-slot.slots.items c.pop.new.self.items c.in-Some.slot _ (g.F.Fleet.told c.loop-slot.fleet) (g.F.Fleet.told c.retire_slot.new.fleet) c.in-Some.ensures.items c.retire_slot.ensures.retired (omega arith)
          ∙ c.loop-slot.invariant.retired;
      exact = λ each. c.loop-slot.invariant.exact (each_before (RecordsJournal told) c.loop-slot.slots.items c.pop.new.self.items c.in-Some.slot tt c.in-Some.ensures.items c.retire_slot.ensures.exact each);
      ability = c.retire_slot.ensures.able.ability ∙ c.loop-slot.invariant.ability;
      preferred = c.retire_slot.ensures.able.preferred ∙ c.loop-slot.invariant.preferred;
    }

pub returns-clause-unasked : goal.returns-clause-unasked
returns-clause-unasked g c = λ none.
    let told = g.F.Wire.Wire.told in
    let now = g.F.Fleet.told c.loop-slot.fleet in
    let over : c.loop-slot.slots.items ≡ [] = search rules in
    ap (λ slots. retired_from told (reverse slots) now) (sym over) ∙ c.loop-slot.invariant.retired ∙ empty_unasked told c.args.wires (g.F.Fleet.told c.args.fleet.now) none

pub returns-clause-exact : goal.returns-clause-exact
returns-clause-exact g c =
    let over : c.loop-slot.slots.items ≡ [] = search rules in
    c.loop-slot.invariant.exact (each_of_none (RecordsJournal g.F.Wire.Wire.told) c.loop-slot.slots.items tt over)
