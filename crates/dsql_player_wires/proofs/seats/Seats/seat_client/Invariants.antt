use Rattle.std.proofs.Common.{◌≡◌, ℕ, ◌+◌, ◌-◌, ◌≤◌, length, vec_len}
use Rattle.dsql_player_wires.specs.Seats.{seat}
use Rattle.dsql_player_wires.proofs.seats.Seats.seat_client.Given as goal

abbrev pub invariant-loop-self : goal.invariant-loop-self
invariant-loop-self l = record {
  few : vec_len l.self-inside.seats ≤ 256;
  same : (c : ℕ) → seat l.self-inside.seats.items c ≡ seat l.fn.self c;
  count : length l.fn.self ≤ vec_len l.self-inside.seats;
}

abbrev pub decreases-loop-self : goal.decreases-loop-self
decreases-loop-self l = l.client + 1 - vec_len l.self-inside.seats
