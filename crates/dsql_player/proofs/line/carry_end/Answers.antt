use Rattle.std.proofs.Common.{◌≡◌, true, false, ap, ◌∙◌}
use Rattle.std.specs.Prelude.{OnOk}
use Rattle.std.proofs.lemmas.Result.{err_from_is_err_and, on_ok_weaker, on_err_weaker}
use Rattle.dsql_engine_laws.specs.history.Readers.Course.{has_ended}
use Rattle.dsql_player.specs.Acts.{ComesToEnd}
use Rattle.dsql_player.proofs.Hearing.{hears_none}
use Rattle.dsql_player.proofs.Keeping.{run_after}
use Rattle.dsql_player.proofs.Fitting.{fits_same, fits_unheard}
use Rattle.dsql_player.proofs.LastPart.{end_begun, end_stays, end_stops}
use Rattle.dsql_player.proofs.Ended.{RanOut, empty_out, gone_far, gone_out, gone_over, on_ok2, over_out, quiet_out, ran_out, run_halts, run_through}
use Rattle.dsql_player.proofs.line.carry_end.Goals as goal

pub run_on-requires-clause-wires : goal.run_on-requires-clause-wires
run_on-requires-clause-wires g c = λ κs h. fits_same g.F.Wire.Wire.told c.args.player.now.past c.release.new.self.past c.args.wires.now c.release.ensures.past _ c.requires.wires

pub end_run-requires-clause-quiet : goal.end_run-requires-clause-quiet
end_run-requires-clause-quiet g c =
    let e = c.in_ok-run_on.ensures in
    let out : RanOut false c.run_on.new.player = record {
      ready = e.run.ready;
      released = e.course.released ∙ c.release.ensures.released;
      ended = e.course.ended ∙ (ap has_ended c.release.ensures.past ∙ c.requires.running);
      none = e.no_chore;
      nobody = e.nobody;
    } in
    quiet_out false c.run_on.new.player out

pub end_run-requires-clause-running : goal.end_run-requires-clause-running
end_run-requires-clause-running g c = c.in_ok-run_on.ensures.course.ended ∙ (ap has_ended c.release.ensures.past ∙ c.requires.running)

pub run_on-requires-2-clause-wires : goal.run_on-requires-2-clause-wires
run_on-requires-2-clause-wires g c = λ κs h.
    fits_unheard g.F.Wire.Wire.told c.run_on.new.player.past c.end_run.new.self.past c.run_on.new.wires c.end_run.ensures.act.unheard _ c.in_ok-run_on.ensures.run.wires

pub returns-in_err-run_on : goal.returns-in_err-run_on
returns-in_err-run_on g c =
    let old = c.args.player.now in
    let begun = c.release.new.self in
    let new = c.run_on.new.player in
    let e = c.in_err-run_on.ensures in
    let p = err_from_is_err_and c.from_residual.result c.from_residual.ensures.1 in
    rw p.1
    (record {
      carries = tt;
      stops = λ m at. end_stops m old begun new.past (end_begun m old begun at c.release.ensures.past (c.release.ensures.at m at)) e.so_far;
      over = tt;
      ended = tt;
      quiet = tt;
      empty = tt;
      run =
          run_after g.F.Fleet g.F.Wire.Wire.told _ c.args.fleet.now c.run_on.new.fleet old begun new c.args.wires.now c.run_on.new.wires (hears_none old.past begun.past c.release.ensures.past)
          (record { ready = tt; told = tt; asked = e.run.asked; wires = tt; able = e.run.able; legal = e.run.legal });
      full = λ h. e.full (cc (h, p.2));
      trimmed = e.trimmed ∙ c.release.ensures.trimmed;
    })

pub returns-in_err-end_run : goal.returns-in_err-end_run
returns-in_err-end_run g c =
    let old = c.args.player.now in
    let begun = c.release.new.self in
    let far = c.run_on.new.player in
    let over = c.end_run.new.self in
    let done = c.in_ok-run_on.ensures in
    let e = c.in_err-end_run.ensures in
    let p = err_from_is_err_and c.from_residual-in_err-end_run.result c.from_residual-in_err-end_run.ensures.1 in
    rw p.1
    (record {
      carries = tt;
      stops = λ m at.
          let comes : ComesToEnd m old far = gone_far m old begun far c.release.ensures.past c.release.ensures.at done.out at in
          end_stays m old far over.past e.act.fails.same comes;
      over = tt;
      ended = tt;
      quiet = tt;
      empty = tt;
      run = run_halts g.F.Fleet g.F.Wire.Wire.told _ c.args.fleet.now c.run_on.new.fleet old begun far over c.args.wires.now c.run_on.new.wires c.release.ensures.past done.run.told done.run.able done.run.wires e.act.unheard e.act.legal;
      full = λ h. absurd (cc (h, p.2, e.act.fails.memory));
      trimmed = e.trimmed ∙ (done.trimmed ∙ c.release.ensures.trimmed);
    })

pub returns-clause-carries : goal.returns-clause-carries
returns-clause-carries g c =
    let e = c.in_ok-run_on.ensures in
    let out_far : RanOut false c.run_on.new.player = record {
      ready = e.run.ready;
      released = e.course.released ∙ c.release.ensures.released;
      ended = e.course.ended ∙ (ap has_ended c.release.ensures.past ∙ c.requires.running);
      none = e.no_chore;
      nobody = e.nobody;
    } in
    let r = c.run_on-2.result in
    let new = c.run_on-2.new.player in
    let last = c.run_on-2.ensures in
    let released : c.end_run.new.self.released ≡ true = c.in_ok-end_run.ensures.released ∙ (c.in_ok-run_on.ensures.course.released ∙ c.release.ensures.released) in
    let out : OnOk r (RanOut true new) = ran_out r true c.end_run.new.self new released c.in_ok-end_run.ensures.ended last.run.ready last.course last.no_chore last.nobody in
    let old = c.args.player.now in
    let over = c.end_run.new.self in
    on_ok2 r
    (λ out runs m at.
    let far : ComesToEnd m old c.run_on.new.player = gone_far m old c.release.new.self c.run_on.new.player c.release.ensures.past c.release.ensures.at e.out at in
    gone_out m old over new (gone_over m old c.run_on.new.player over out_far c.in_ok-end_run.ensures.ends far) runs out)
    out
    last.out

pub returns-clause-stops : goal.returns-clause-stops
returns-clause-stops g c =
    let e = c.in_ok-run_on.ensures in
    let out_far : RanOut false c.run_on.new.player = record {
      ready = e.run.ready;
      released = e.course.released ∙ c.release.ensures.released;
      ended = e.course.ended ∙ (ap has_ended c.release.ensures.past ∙ c.requires.running);
      none = e.no_chore;
      nobody = e.nobody;
    } in
    let old = c.args.player.now in
    let over = c.end_run.new.self in
    on_err_weaker c.run_on-2.result
    (λ runs m at.
    let far : ComesToEnd m old c.run_on.new.player = gone_far m old c.release.new.self c.run_on.new.player c.release.ensures.past c.release.ensures.at e.out at in
    end_stops m old over c.run_on-2.new.player.past (gone_over m old c.run_on.new.player over out_far c.in_ok-end_run.ensures.ends far) runs)
    c.run_on-2.ensures.so_far

pub returns-clause-over : goal.returns-clause-over
returns-clause-over g c =
    let r = c.run_on-2.result in
    let new = c.run_on-2.new.player in
    let last = c.run_on-2.ensures in
    let released : c.end_run.new.self.released ≡ true = c.in_ok-end_run.ensures.released ∙ (c.in_ok-run_on.ensures.course.released ∙ c.release.ensures.released) in
    let out : OnOk r (RanOut true new) = ran_out r true c.end_run.new.self new released c.in_ok-end_run.ensures.ended last.run.ready last.course last.no_chore last.nobody in
    on_ok_weaker r (λ done. over_out new done) out

pub returns-clause-ended : goal.returns-clause-ended
returns-clause-ended g c =
    let r = c.run_on-2.result in
    let new = c.run_on-2.new.player in
    let last = c.run_on-2.ensures in
    let released : c.end_run.new.self.released ≡ true = c.in_ok-end_run.ensures.released ∙ (c.in_ok-run_on.ensures.course.released ∙ c.release.ensures.released) in
    let out : OnOk r (RanOut true new) = ran_out r true c.end_run.new.self new released c.in_ok-end_run.ensures.ended last.run.ready last.course last.no_chore last.nobody in
    on_ok_weaker r (λ done. done.ended) out

pub returns-clause-quiet : goal.returns-clause-quiet
returns-clause-quiet g c =
    let r = c.run_on-2.result in
    let new = c.run_on-2.new.player in
    let last = c.run_on-2.ensures in
    let released : c.end_run.new.self.released ≡ true = c.in_ok-end_run.ensures.released ∙ (c.in_ok-run_on.ensures.course.released ∙ c.release.ensures.released) in
    let out : OnOk r (RanOut true new) = ran_out r true c.end_run.new.self new released c.in_ok-end_run.ensures.ended last.run.ready last.course last.no_chore last.nobody in
    on_ok_weaker r (λ done. quiet_out true new done) out

pub returns-clause-empty : goal.returns-clause-empty
returns-clause-empty g c =
    let r = c.run_on-2.result in
    let new = c.run_on-2.new.player in
    let last = c.run_on-2.ensures in
    let released : c.end_run.new.self.released ≡ true = c.in_ok-end_run.ensures.released ∙ (c.in_ok-run_on.ensures.course.released ∙ c.release.ensures.released) in
    let out : OnOk r (RanOut true new) = ran_out r true c.end_run.new.self new released c.in_ok-end_run.ensures.ended last.run.ready last.course last.no_chore last.nobody in
    on_ok2 r (λ done fit. empty_out g.F.Wire.Wire.told _ new c.run_on-2.new.wires done fit) out last.run.wires

pub returns-clause-run : goal.returns-clause-run
returns-clause-run g c =
    run_through g.F.Fleet g.F.Wire.Wire.told c.run_on-2.result c.args.fleet.now c.run_on.new.fleet c.run_on-2.new.fleet c.args.player.now c.release.new.self c.run_on.new.player c.end_run.new.self c.run_on-2.new.player c.args.wires.now c.run_on.new.wires
    c.run_on-2.new.wires c.release.ensures.past c.in_ok-run_on.ensures.run.told c.in_ok-run_on.ensures.run.able c.end_run.ensures.act.unheard c.run_on-2.ensures.run
