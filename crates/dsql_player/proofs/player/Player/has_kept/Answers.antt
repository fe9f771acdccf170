use Rattle.std.proofs.Common.{◌≡◌, ◌∙◌, not, subst}
use Rattle.dsql_engine_laws.specs.journal.Readers.{is_empty}
use Rattle.dsql_player_wires.specs.Seats.{seat}
use Rattle.dsql_player.specs.Playing.{Playing}
use Rattle.dsql_player.proofs.MayGo.{kept_first}
use Rattle.dsql_player.proofs.player.Player.has_kept.Goals as goal

pub returns : goal.returns
returns c =
    subst (λ (p : Playing). c.has_kept.result ≡ not (is_empty (seat p.seats c.args.client).kept)) c.self.view_is
    (c.has_kept.ensures ∙ kept_first (seat c.self.inside.seats c.args.client).kept)
