use Rattle.std.proofs.Common.{◌≡◌, ap, subst}
use Rattle.std.proofs.lemmas.Result.{err_from_is_err_and}
use Rattle.dsql_engine.specs.Core.{Core}
use Rattle.dsql_player.specs.Playing.{Playing}
use Rattle.dsql_player.proofs.Entered.{control_acts, control_course, control_step, failed, same_leave, seen}
use Rattle.dsql_player.proofs.player.Player.control.Goals as goal

pub returns-in_err-control-clause-act : goal.returns-in_err-control-clause-act
returns-in_err-control-clause-act c =
    let p = err_from_is_err_and c.from_residual.result c.from_residual.ensures.1 in
    failed c.from_residual.result p.0 c.args.self.now (seen c.control.new.self c.self.inside.seats c.self.inside.released) p.1 p.2
    (subst (λ (old : Playing). c.control.new.self.past ≡ old.past) c.self.view_is (ap (λ (core : Core). core.past) c.in_err-control.ensures.err)) c.requires.ready

pub returns-clause-tells : goal.returns-clause-tells
returns-clause-tells c =
    control_step c.args.control c.self.inside.engine c.control.new.self c.self.inside.seats c.self.inside.released c.args.self.now c.self.view_is c.requires.ready c.in_ok-control.ensures.group
    c.control.ensures.flights c.control.ensures.chore c.control.ensures.legal

pub returns-clause-course : goal.returns-clause-course
returns-clause-course c =
    control_course c.args.control c.self.inside.engine c.control.new.self c.self.inside.seats c.self.inside.released c.args.self.now c.self.view_is c.requires.ready c.in_ok-control.ensures.group
    c.control.ensures.flights c.control.ensures.chore c.control.ensures.legal

pub returns-clause-act : goal.returns-clause-act
returns-clause-act c =
    control_acts c.args.control c.self.inside.engine c.control.new.self c.self.inside.seats c.self.inside.released c.args.self.now c.self.view_is c.requires.ready c.in_ok-control.ensures.group
    c.control.ensures.flights c.control.ensures.chore c.control.ensures.legal

pub returns-clause-handed : goal.returns-clause-handed
returns-clause-handed c = same_leave c.self.inside.engine c.control.new.self c.self.inside.seats c.self.inside.released c.args.self.now c.self.view_is
