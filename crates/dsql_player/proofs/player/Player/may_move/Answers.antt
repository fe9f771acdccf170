use Rattle.std.proofs.Common.{◌≡◌, ◌∙◌, true, is_none, ap, sym, subst}
use Rattle.dsql_engine_laws.specs.history.Readers.Calls.{is_busy}
use Rattle.dsql_engine_laws.specs.history.Readers.Clients.{call_of}
use Rattle.dsql_engine_laws.specs.laws_ends.Over.{may_move}
use Rattle.dsql_player.specs.Playing.{Playing}
use Rattle.dsql_player.proofs.MayGo.{moves_of}
use Rattle.dsql_player.proofs.Next.{none_of}
use Rattle.dsql_player.proofs.player.Player.may_move.Goals as goal

pub returns : goal.returns
returns c =
    let busy : is_busy c.args.client c.self.inside.engine.past ≡ true = subst (λ (p : Playing). is_busy c.args.client p.past ≡ true) (sym c.self.view_is) c.requires.busy in
    subst (λ (p : Playing). c.is_none.result ≡ may_move p.past p.flights (call_of p.past c.args.client)) c.self.view_is
    (none_of c.blocked.result c.is_none.result c.is_none.ensures ∙ (ap is_none c.blocked.ensures ∙ moves_of c.self.inside.engine c.args.client busy))
