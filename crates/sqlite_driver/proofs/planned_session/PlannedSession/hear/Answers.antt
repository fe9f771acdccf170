use Rattle.std.proofs.Common.{subst}
use Rattle.sqlite_driver.specs.Wire.{WireState, Hears}
use Rattle.sqlite_driver.proofs.planned_session.PlannedSession.hear.Goals as goal

pub returns-clause-heard : goal.returns-clause-heard
returns-clause-heard c =
    let HearsFrom : WireState → Type 0 = λ w. Hears c.args.call.now c.in_ok-answered.answered w (record { session = c.carry_out_unless.new.session; log = c.note.new.self }) in
    subst HearsFrom c.self.view_is (record { served = rw c.in_ok-fault.ensures.fault at c.in_ok-answered.ensures.served; logged = c.note.ensures.log })
