use Rattle.std.proofs.Common.{sym, subst, ap, ◌≡◌, true, false}
use Rattle.std.proofs.lemmas.Result.{err_from_is_err_and}
use Rattle.dsql_engine_laws.specs.history.Readers.Course.{has_ended}
use Rattle.dsql_engine_laws.specs.history.Rules.House.{is_quiet}
use Rattle.dsql_engine.specs.Core.{Core}
use Rattle.dsql_player.specs.Playing.{Playing}
use Rattle.dsql_player.proofs.Entered.{end_acts, end_ended, end_is_step, failed, seen}
use Rattle.dsql_player.proofs.player.Player.end_run.Goals as goal

pub end-requires-clause-quiet : goal.end-requires-clause-quiet
end-requires-clause-quiet c = subst (λ (p : Playing). is_quiet p.past ≡ true) (sym c.self.view_is) c.requires.quiet

pub end-requires-clause-running : goal.end-requires-clause-running
end-requires-clause-running c = subst (λ (p : Playing). has_ended p.past ≡ false) (sym c.self.view_is) c.requires.running

pub returns-in_err-end-clause-act : goal.returns-in_err-end-clause-act
returns-in_err-end-clause-act c =
    let p = err_from_is_err_and c.from_residual.result c.from_residual.ensures.1 in
    failed c.from_residual.result p.0 c.args.self.now (seen c.end.new.self c.self.inside.seats c.self.inside.released) p.1 p.2
    (subst (λ (old : Playing). c.end.new.self.past ≡ old.past) c.self.view_is (ap (λ (core : Core). core.past) c.in_err-end.ensures.err)) c.requires.ready

pub returns-clause-ends : goal.returns-clause-ends
returns-clause-ends c =
    end_is_step c.self.inside.engine c.end.new.self c.self.inside.seats c.self.inside.released c.args.self.now c.self.view_is c.requires.ready c.in_ok-end.ensures.group c.end.ensures.flights
    c.end.ensures.chore c.end.ensures.legal

pub returns-clause-ended : goal.returns-clause-ended
returns-clause-ended c =
    end_ended c.self.inside.engine c.end.new.self c.self.inside.seats c.self.inside.released c.args.self.now c.self.view_is c.requires.ready c.in_ok-end.ensures.group c.end.ensures.flights
    c.end.ensures.chore c.end.ensures.legal

pub returns-clause-act : goal.returns-clause-act
returns-clause-act c =
    end_acts c.self.inside.engine c.end.new.self c.self.inside.seats c.self.inside.released c.args.self.now c.self.view_is c.requires.ready c.in_ok-end.ensures.group c.end.ensures.flights
    c.end.ensures.chore c.end.ensures.legal
