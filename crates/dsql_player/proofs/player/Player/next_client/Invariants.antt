use Rattle.std.proofs.Common.{◌≡◌, ℕ, ◌<◌, false}
use Rattle.dsql_player.specs.Stepping.{goes}
use Rattle.dsql_player.proofs.player.Player.next_client.Given as goal

abbrev pub invariant-loop-client : goal.invariant-loop-client
invariant-loop-client l = (k : ℕ) → k < l.client → goes l.self k ≡ false
