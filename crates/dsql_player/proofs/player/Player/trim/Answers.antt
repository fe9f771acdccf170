use Rattle.dsql_player.proofs.Trimming.{at_still, core_trimmed, ready_still}
use Rattle.dsql_player.proofs.player.Player.trim.Goals as goal

pub returns-clause-ready : goal.returns-clause-ready
returns-clause-ready c =
    let e = c.trim.ensures in
    ready_still c.args.self.now _ (core_trimmed c.self.inside.engine c.trim.new.self c.self.inside.seats c.self.inside.released c.args.self.now c.self.view_is e.past e.flights e.chore)

pub returns-clause-at : goal.returns-clause-at
returns-clause-at c =
    let e = c.trim.ensures in
    at_still c.args.self.now _ (core_trimmed c.self.inside.engine c.trim.new.self c.self.inside.seats c.self.inside.released c.args.self.now c.self.view_is e.past e.flights e.chore)
