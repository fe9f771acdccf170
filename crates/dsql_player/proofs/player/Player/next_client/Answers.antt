use Rattle.std.proofs.Common.{◌≡◌, length, arith, ap, sym, ◌∙◌, below_more}
use Rattle.dsql_player.specs.Playing.{Playing}
use Rattle.dsql_player.proofs.Next.{nobody_goes}
use Rattle.dsql_player.proofs.player.Player.next_client.Goals as goal

pub returns-then-goes : goal.returns-then-goes
returns-then-goes c = record { may = sym c.goes.ensures ∙ c.if-goes.true; first = c.loop-client.invariant }

pub loop-client-preserved : goal.loop-client-preserved
loop-client-preserved c = below_more _ _ c.loop-client.invariant (sym c.goes.ensures ∙ c.if-goes.false)

pub returns : goal.returns
returns c =
    let seats : length c.self.inside.seats ≡ length c.args.self.now.seats = ap (λ (p : Playing). length p.seats) c.self.view_is in
    let end = c.loop-client-test.false in
    let count = c.count-client-end.ensures.count in
    nobody_goes c.args.self.now c.loop-client.client c.requires.ready (omega (arith, seats, end, count)) c.loop-client.invariant
