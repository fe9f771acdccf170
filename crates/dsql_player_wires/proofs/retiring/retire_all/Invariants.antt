use Rattle.std.proofs.Common.{◌≡◌, ◌^◌, ◌≤◌, ℕ, vec_len}
use Rattle.std.specs.Prelude.{reverse}
use Rattle.dsql_player_wires.specs.Stopped.{RecordsJournal}
use Rattle.dsql_player_wires.specs.Told.{retired_from}
use Rattle.dsql_player_wires.specs.WiresFit.{slot}
use Rattle.dsql_player_wires.proofs.retiring.retire_all.Given as goal

abbrev pub invariant-loop-slot : goal.invariant-loop-slot
invariant-loop-slot g l = record {
  few : vec_len l.slots ≤ 2 ^ 32;
  retired : retired_from g.F.Wire.Wire.told (reverse l.slots.items) (g.F.Fleet.told l.fleet)
      ≡ retired_from g.F.Wire.Wire.told (reverse l.fn.wires) (g.F.Fleet.told l.fn.fleet);
  exact : ((c : ℕ) → RecordsJournal g.F.Wire.Wire.told (slot l.slots.items c)) → (c : ℕ) → RecordsJournal g.F.Wire.Wire.told (slot l.fn.wires c);
  ability : g.F.Fleet.ability l.fleet ≡ g.F.Fleet.ability l.fn.fleet;
  preferred : g.F.Fleet.preferred l.fleet ≡ g.F.Fleet.preferred l.fn.fleet;
}

abbrev pub decreases-loop-slot : goal.decreases-loop-slot
decreases-loop-slot g l = vec_len l.slots
