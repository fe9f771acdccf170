use Rattle.std.proofs.Common.{◌≡◌, ◌++◌, map, take, drop}
use Rattle.dsql_player_wires.specs.Seats.{released}
use Rattle.dsql_player_wires.proofs.seats.release_each.Given as goal

abbrev pub invariant-loop-at_hand : goal.invariant-loop-at_hand
invariant-loop-at_hand l = l.seats ≡ map released (take l.at_hand-index l.initial.seats) ++ drop l.at_hand-index l.initial.seats
