use Rattle.dsql_player.proofs.Taken.{may_hear, takes_in}
use Rattle.dsql_player.proofs.player.Player.take_in.Goals as goal

pub heard-requires-clause-may : goal.heard-requires-clause-may
heard-requires-clause-may c = may_hear c.self.inside.engine c.self.inside.seats c.self.inside.released c.args.self.now c.args.heard c.self.view_is c.requires.answered

pub returns-clause-takes : goal.returns-clause-takes
returns-clause-takes c = λ permit is.
    takes_in c.self.inside.engine c.heard.new.self c.self.inside.seats c.self.inside.released c.args.self.now c.args.heard c.in_ok-heard.field-0 permit c.self.view_is c.requires.answered is
    c.in_ok-heard.ensures.group c.in_ok-heard.ensures.next c.in_ok-heard.ensures.chore c.heard.ensures.legal
