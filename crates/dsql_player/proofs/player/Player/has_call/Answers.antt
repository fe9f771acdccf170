use Rattle.std.proofs.Common.{◌≡◌, ◌∙◌, ap, is_some, subst}
use Rattle.dsql_engine_laws.specs.history.Readers.Calls.{is_busy}
use Rattle.dsql_engine_laws.specs.history.Readers.Clients.{call_of}
use Rattle.dsql_player.specs.Playing.{Playing}
use Rattle.dsql_player.proofs.Next.{some_if}
use Rattle.dsql_player.proofs.player.Player.has_call.Goals as goal

pub returns : goal.returns
returns c =
    let past = c.self.inside.engine.past in
    subst (λ (p : Playing). c.is_some.result ≡ is_busy c.args.client p.past) c.self.view_is
    (c.is_some.ensures ∙ (ap is_some c.unfinished.ensures ∙ some_if (is_busy c.args.client past) (call_of past c.args.client)))
