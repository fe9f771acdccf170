use Rattle.std.proofs.Common.{◌≡◌, ap, sym, ◌∙◌, Some, None}
use Rattle.dsql_hall.proofs.Along.{cut_keeps, shut_keeps, still_able}
use Rattle.dsql_hall.proofs.shared.SharedHall.shut.Goals as goal
use Rattle.dsql_hall.proofs.shared.SharedHall.shut.Goals.{in-Some, in-None, in-Ok, in-Err}

pub returns-clause-keeps : goal.returns-clause-keeps
returns-clause-keeps g c =
    elim c.match-wire.branch [
      | in-Some w ↦ (elim c.match-perform.branch [
        | in-Ok v ↦ rw (w.fleet-is, w.cut-is, v.own-is) (shut_keeps g.F.Fleet g.W.Wire.told g.K.Race.terms.telling g.K.Race.terms.made c.args.house.fleet.now w.retire_wire.new.fleet c.args.house.own v.hear_shut-heard.result.0 v.in-Ok.back.wire v.hear_shut-heard.new.self.stopped v.hear_shut-heard.result.1 w.in-Some.wire c.conn-conn.result
            c.requires.telling (v.in-Ok.ensures.conn ∙ sym c.conn-conn.ensures) v.hear_shut-heard.ensures.own v.hear_shut-heard.ensures.told v.hear_shut-heard.ensures.wire (λ n. (v.hear_shut-heard.ensures.stays n).1) (ap (λ o. o.1) (sym v.own-is) ∙ w.in-Some.is) w.retire_wire.ensures.retired w.retire_wire.ensures.exact w.retire_wire.ensures.able)
        | in-Err v ↦ (let none : Some w.in-Some.wire ≡ None = sym w.in-Some.is ∙ ap (λ o. o.1) v.own-is in absurd cc)
      ])
      | in-None w ↦ (elim c.match-perform.branch [
        | in-Ok v ↦ rw (w.fleet-is, w.cut-is, v.own-is) (cut_keeps g.F.Fleet g.K.Race.terms.made c.args.house.fleet.now c.args.house.fleet.now c.args.house.own v.hear_shut-heard.result.0 v.hear_shut-heard.ensures.own (still_able g.F.Fleet c.args.house.fleet.now))
        | in-Err v ↦ rw (w.fleet-is, w.cut-is, v.own-is) (cut_keeps g.F.Fleet g.K.Race.terms.made c.args.house.fleet.now c.args.house.fleet.now c.args.house.own c.args.house.own c.requires.own (still_able g.F.Fleet c.args.house.fleet.now))
      ])
    ]
