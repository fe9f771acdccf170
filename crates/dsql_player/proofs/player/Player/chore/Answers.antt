use Rattle.dsql_player.proofs.PutOff.{due_found, none_found, put_off}
use Rattle.dsql_player.proofs.player.Player.chore.Goals as goal

pub returns-clause-some : goal.returns-clause-some
returns-clause-some c = due_found c.first_chore-permit.result c.args.self.now c.first_chore-permit.new.self c.first_chore-permit.ensures.finds c.first_chore-permit.ensures.same.past

pub returns-clause-none : goal.returns-clause-none
returns-clause-none c = none_found c.first_chore-permit.result c.args.self.now c.first_chore-permit.new.self c.first_chore-permit.ensures.finds

pub returns-clause-same : goal.returns-clause-same
returns-clause-same c =
    put_off c.self.inside.engine c.put_off_chore.new.self c.self.inside.seats c.self.inside.released c.args.self.now c.first_chore-permit.new.self c.self.view_is c.requires.ready c.first_chore-permit.ensures.same
    c.put_off_chore.ensures.past c.put_off_chore.ensures.trimmed c.put_off_chore.ensures.flights c.put_off_chore.ensures.chore
