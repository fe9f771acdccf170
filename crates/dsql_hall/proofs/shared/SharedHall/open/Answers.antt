use Rattle.std.proofs.Common.{ap, is_some, ◌∙◌}
use Rattle.dsql_hall.proofs.Along.{cut_keeps, opened_keeps}
use Rattle.dsql_hall.proofs.shared.SharedHall.open.Goals as goal
use Rattle.dsql_hall.proofs.shared.SharedHall.open.Goals.{in-Ok, in-Err}

pub returns-clause-keeps : goal.returns-clause-keeps
returns-clause-keeps g c =
    elim c.match-connect.branch [
      | in-Ok w ↦ rw w.own-is (opened_keeps g.F.Fleet g.K.Race.terms.made c.args.house.fleet.now c.connect.new.fleet c.args.house.own w.hear_opening-own.result w.in-Ok.opened.entry w.hear_opening-own.new.self.stopped
          w.is_stopped-cut.result w.hear_opening-own.ensures.own w.in-Ok.ensures.able (w.is_stopped-cut.ensures ∙ ap (λ l. is_some l.hall.stopped) w.deref.ensures) w.in-Ok.ensures.asked w.hear_opening-own.ensures.told)
      | in-Err w ↦ rw w.own-is (cut_keeps g.F.Fleet g.K.Race.terms.made c.args.house.fleet.now c.connect.new.fleet c.args.house.own c.args.house.own c.requires.own w.in-Err.ensures.able)
    ]
