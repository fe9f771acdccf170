use Rattle.std.proofs.Common.{◌∙◌, ap, inl, inr, refl, arith, is_some, rules}
use Rattle.dsql_run_outcome.specs.history.declared.event.Event.TheVariants.{Run}
use Rattle.dsql_run_outcome.specs.follows.Moments.{just_begun}
use Rattle.dsql_run_outcome.proofs.player_wires.Extending.{extends_then}
use Rattle.dsql_run_outcome.proofs.player.Keeping.{able_then}
use Rattle.dsql_run_outcome.specs.Lent.{lent}
use Rattle.dsql_run_outcome.specs.Runs.{is_write_fault}
use Rattle.dsql_run_outcome.proofs.Asking.{read_played, written_played, not_read, not_written}
use Rattle.dsql_run_outcome.proofs.Ending.{script_played, shown_before_end}
use Rattle.dsql_run_outcome.proofs.Finished.{all_risen, wrote_older, writes_more}
use Rattle.dsql_run.proofs.Written.{grown}
use Rattle.dsql_run.proofs.playing.play_from.Goals as goal

pub play_lines-played-requires-clause-between : goal.play_lines-played-requires-clause-between
play_lines-played-requires-clause-between g c κs within = record {
  ready = c.requires.ready;
  running = rw c.requires.begun refl;
  wires = rw c.requires.begun (c.new-wires.ensures.fitting (is_some (g.F.Fleet.told c.args.fleet.now)) 1 (g.F.Fleet.ability c.args.fleet.now));
  moment = just_begun (Run 1 (g.F.Fleet.ability c.args.fleet.now));
  at = c.requires.at;
}

pub play_lines-played-requires-clause-unplanned : goal.play_lines-played-requires-clause-unplanned
play_lines-played-requires-clause-unplanned g c κs within = rw c.requires.begun (c.new-wires.ensures.unplanned 1 (g.F.Fleet.ability c.args.fleet.now))

pub finish-requires-clause-within : goal.finish-requires-clause-within
finish-requires-clause-within g c =
    omega (arith, c.play_lines-played.ensures.writes.within, grown c.play_lines-played.new.player.past c.close-ended.new.player.past c.close-ended.ensures.on.extends)

pub returns-clause-on : goal.returns-clause-on
returns-clause-on g c = record {
  extends = extends_then c.args.player.now.past c.play_lines-played.new.player.past c.close-ended.new.player.past c.play_lines-played.ensures.on.extends c.close-ended.ensures.on.extends;
  able = able_then g.F.Fleet c.args.fleet.now c.play_lines-played.new.fleet c.close-ended.new.fleet c.play_lines-played.ensures.on.able c.close-ended.ensures.on.able;
  legal = c.close-ended.ensures.on.legal;
}

pub returns-clause-kept : goal.returns-clause-kept
returns-clause-kept g c = λ keeps. c.close-ended.ensures.trimmed ∙ c.play_lines-played.ensures.kept keeps

pub returns-clause-script : goal.returns-clause-script
returns-clause-script g c = λ before asked skipped failed head first_failed risen_failed.
    script_played c.play_lines-played.result c.close-ended.result c.finish.result before (g.S.Source.left c.play_lines-played.new.input) c.play_lines-played.new.script.reader.lines asked failed (Run 1 (g.F.Fleet.ability c.args.fleet.now)) c.play_lines-played.new.player c.close-ended.new.player.past
    (g.K.Sink.written c.args.output.now) (g.K.Sink.written c.play_lines-played.new.output) (g.K.Sink.written c.finish.new.output) c.play_lines-played.new.shown
    (lent g.F.Fleet g.F.Wire.Wire.told c.args.fleet.now c.play_lines-played.new.fleet c.play_lines-played.new.wires) (g.F.Fleet.told c.close-ended.new.fleet)
    (record {
      same = c.close-ended.ensures.same;
      finishes = c.finish.ensures.result;
      extends = c.close-ended.ensures.on.extends;
      carries = c.close-ended.ensures.carries;
      stops = c.close-ended.ensures.stops;
      stays = c.close-ended.ensures.stays;
    })
    (record { end = c.close-ended.ensures.told; unwired = c.close-ended.ensures.unwired; left = c.close-ended.ensures.back; given_back = c.close-ended.ensures.given_back; exact = c.close-ended.ensures.exact })
    (c.play_lines-played.ensures.lines before asked skipped head)
    (λ fault. elim (c.play_lines-played.ensures.reads.caused fault) [ inl first ↦ first_failed first | inr risen ↦ risen_failed risen ])
    (record {
      shown = c.play_lines-played.ensures.writes.shown;
      unwritten = λ fault. ap g.K.Sink.written (c.finish.ensures.unwritten fault);
      stops = λ unfailed is. c.finish.ensures.stops (g.K.Sink.written c.args.output.now)
          (shown_before_end c.play_lines-played.result c.close-ended.result c.finish.result (g.K.Sink.written c.args.output.now) (g.K.Sink.written c.play_lines-played.new.output) c.play_lines-played.new.shown c.play_lines-played.new.player.past
          c.close-ended.new.player.past c.close-ended.ensures.same c.finish.ensures.result is unfailed c.close-ended.ensures.on.extends c.play_lines-played.ensures.writes.within c.play_lines-played.ensures.writes.wrote)
          unfailed is;
    })

pub returns-clause-writes : goal.returns-clause-writes
returns-clause-writes g c =
    writes_more c.finish.result _ _ (g.K.Sink.written c.args.output.now) (g.K.Sink.written c.finish.new.output) c.close-ended.new.player.past
    (all_risen c.play_lines-played.result (g.K.Sink.faults c.args.output.now) (g.K.Sink.faults c.play_lines-played.new.output) (g.K.Sink.faults c.finish.new.output) c.play_lines-played.ensures.faults.counted c.finish.ensures.counted (λ is. c.play_lines-played.ensures.faults.caused (ap is_write_fault is)))
    (c.finish.ensures.wrote (g.K.Sink.written c.args.output.now)
    (wrote_older c.play_lines-played.result (g.K.Sink.written c.args.output.now) (g.K.Sink.written c.play_lines-played.new.output) c.play_lines-played.new.shown c.play_lines-played.new.player.past c.close-ended.new.player.past c.close-ended.ensures.on.extends c.play_lines-played.ensures.writes.within c.play_lines-played.ensures.writes.wrote))

pub returns-clause-read_well : goal.returns-clause-read_well
returns-clause-read_well g c = λ well.
    c.play_lines-played.ensures.read_well (not_read c.play_lines-played.result (read_played c.play_lines-played.result c.close-ended.result c.finish.result c.close-ended.ensures.same c.finish.ensures.result well))

pub returns-clause-reads : goal.returns-clause-reads
returns-clause-reads g c = record {
  caused = search rules;
  counted = search rules;
  through = λ well. c.play_lines-played.ensures.reads.through (read_played c.play_lines-played.result c.close-ended.result c.finish.result c.close-ended.ensures.same c.finish.ensures.result well);
}

pub returns-clause-written_well : goal.returns-clause-written_well
returns-clause-written_well g c = record {
  caused = search rules;
  faultless = λ well. c.finish.ensures.faultless well
      ∙ c.play_lines-played.ensures.faults.faultless (not_written c.play_lines-played.result (written_played c.play_lines-played.result c.close-ended.result c.finish.result c.close-ended.ensures.same c.finish.ensures.result well));
}
