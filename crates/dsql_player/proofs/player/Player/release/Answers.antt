use Rattle.std.proofs.Common.{sym, subst}
use Rattle.dsql_player.specs.Playing.{IsReady}
use Rattle.dsql_player.proofs.Entered.{seen}
use Rattle.dsql_player.proofs.Releasing.{released_ready}
use Rattle.dsql_player.proofs.player.Player.release.Goals as goal

pub returns-clause-ready : goal.returns-clause-ready
returns-clause-ready c =
    let p = seen c.self.inside.engine c.self.inside.seats c.self.inside.released in
    released_ready p c.release_all.new.self (subst IsReady (sym c.self.view_is) c.requires.ready) c.release_all.ensures.released c.release_all.ensures.count
