use Rattle.std.proofs.Common.{◌≡◌, ◌≤◌, ◌∙◌, refl, true, subst, arith}
use Rattle.std.specs.Prelude.{Err}
use Rattle.dsql_driver_stream.specs.Faults.{CountsFaults}
use Rattle.dsql_script_show.specs.Report.{is_sink_fault}
use Rattle.dsql_script_show.proofs.Errors.{err_is}
use Rattle.dsql_script_show.proofs.Pieces.{all_shown, shows_piece, stops_in_piece}
use Rattle.dsql_script_show.proofs.Texts.{with_nothing}
use Rattle.dsql_script_show.proofs.showing.show_events.Goals as goal

pub loop-done-init : goal.loop-done-init
loop-done-init g c = record { within = omega arith; front = with_nothing (g.K.Sink.written c.args.output.now); faultless = refl }

pub returns-in_err-show_piece-clause-err : goal.returns-in_err-show_piece-clause-err
returns-in_err-show_piece-clause-err g c =
    let is : c.from_residual.result ≡ Err c.in_err-show_piece.field-0.0 = err_is c.from_residual.result c.in_err-show_piece.field-0.0 c.from_residual.ensures.1 in
    let within : c.loop-done.done ≤ c.min-end.result = omega (arith, c.loop-done.invariant.within) in
    rw is
    (stops_in_piece (g.K.Sink.written c.args.output.now) (g.K.Sink.written c.loop-done.output) (g.K.Sink.written c.show_piece.new.output) c.loop-done.done c.min-end.result c.args.events.now within
    c.loop-done.invariant.front
    c.in_err-show_piece.ensures.err)

pub returns-in_err-show_piece-clause-faults : goal.returns-in_err-show_piece-clause-faults
returns-in_err-show_piece-clause-faults g c =
    let is : c.from_residual.result ≡ Err c.in_err-show_piece.field-0.0 = err_is c.from_residual.result c.in_err-show_piece.field-0.0 c.from_residual.ensures.1 in
    rw is (subst (λ k. CountsFaults (is_sink_fault (Err c.in_err-show_piece.field-0.0)) k (g.K.Sink.faults c.show_piece.new.output)) c.loop-done.invariant.faultless c.in_err-show_piece.ensures.faults)

pub returns-in_err-show_piece-clause-given_up : goal.returns-in_err-show_piece-clause-given_up
returns-in_err-show_piece-clause-given_up g c = λ failed.
    let is : c.from_residual.result ≡ Err c.in_err-show_piece.field-0.0 = err_is c.from_residual.result c.in_err-show_piece.field-0.0 c.from_residual.ensures.1 in
    let given_up = c.in_err-show_piece.ensures.given_up (subst (λ r. is_sink_fault r ≡ true) is failed) in
    record { last = given_up.last; well = given_up.well ∙ c.loop-done.invariant.faultless; kept = given_up.kept }

pub loop-done-preserved : goal.loop-done-preserved
loop-done-preserved g c =
    let within : c.loop-done.done ≤ c.min-end.result = omega (arith, c.loop-done.invariant.within) in
    record {
      within = omega arith;
      front = shows_piece (g.K.Sink.written c.args.output.now) (g.K.Sink.written c.loop-done.output) (g.K.Sink.written c.show_piece.new.output) c.loop-done.done c.min-end.result c.args.events.now within
          c.loop-done.invariant.front
          c.in_ok-show_piece.ensures.ok;
      faultless = c.in_ok-show_piece.ensures.faults.faultless refl ∙ c.loop-done.invariant.faultless;
    }

pub returns-clause-ok : goal.returns-clause-ok
returns-clause-ok g c = all_shown (g.K.Sink.written c.loop-done.output) (g.K.Sink.written c.args.output.now) c.loop-done.done c.args.events.now (omega arith) c.loop-done.invariant.front

pub returns-clause-faults : goal.returns-clause-faults
returns-clause-faults g c = record { caused = λ failed. absurd (cc failed); counted = omega (arith, c.loop-done.invariant.faultless); faultless = λ well. c.loop-done.invariant.faultless }
