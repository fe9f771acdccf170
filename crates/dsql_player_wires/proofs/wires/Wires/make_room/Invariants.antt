use Rattle.std.proofs.Common.{◌≡◌, ℕ, ◌+◌, ◌-◌, ◌≤◌, ◌^◌, length, vec_len}
use Rattle.dsql_player_wires.specs.WiresFit.{slot}
use Rattle.dsql_player_wires.proofs.wires.Wires.make_room.Given as goal

abbrev pub invariant-loop-self : goal.invariant-loop-self
invariant-loop-self g l = record {
  few : vec_len l.self-inside.slots ≤ 2 ^ 32;
  many : length l.fn.self ≤ vec_len l.self-inside.slots;
  same : (c : ℕ) → slot l.self-inside.slots.items c ≡ slot l.fn.self c;
}

abbrev pub decreases-loop-self : goal.decreases-loop-self
decreases-loop-self g l = l.number + 1 - vec_len l.self-inside.slots
