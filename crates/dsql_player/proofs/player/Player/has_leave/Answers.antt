use Rattle.std.proofs.Common.{◌≡◌, is_some, subst}
use Rattle.dsql_player_wires.specs.Seats.{seat}
use Rattle.dsql_player.specs.Playing.{Playing}
use Rattle.dsql_player.proofs.player.Player.has_leave.Goals as goal

pub returns : goal.returns
returns c = subst (λ (p : Playing). c.has_leave.result ≡ is_some (seat p.seats c.args.client).permit) c.self.view_is c.has_leave.ensures
