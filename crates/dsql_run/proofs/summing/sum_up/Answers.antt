use Rattle.std.proofs.Common.{ap}
use Rattle.dsql_run_outcome.specs.Headline.{seen}
use Rattle.dsql_run.proofs.Summaries.{no_write_fault, summed}
use Rattle.dsql_run.proofs.summing.sum_up.Goals as goal

pub returns-clause-summed : goal.returns-clause-summed
returns-clause-summed g c =
    let before = seen g.S.Source g.K.Sink g.F.Fleet c.args.input.now c.args.output.now c.args.fleet.now in
    let after = seen g.S.Source g.K.Sink g.F.Fleet c.play_keeping-stopped.new.input c.write_summary-told.new.output c.play_keeping-stopped.new.fleet in
    let stopped = c.play_keeping-stopped.result.stopped in
    record {
      stopped = stopped;
      told = c.write_summary-told.result;
      finishes = c.write_summary-told.ensures.finishes;
      ran = summed c.play_keeping-stopped.result.kept stopped c.write_summary-told.result before after c.write_summary-told.ensures.finishes c.play_keeping-stopped.ensures.kept c.write_summary-told.ensures.written
          c.play_keeping-stopped.ensures.none c.write_summary-told.ensures.stays (λ none. (ap g.K.Sink.written (c.write_summary-told.ensures.none none), ap g.K.Sink.faults (c.write_summary-told.ensures.none none)));
      write_fault = λ failed. c.write_summary-told.ensures.caused failed (no_write_fault stopped before after c.play_keeping-stopped.ensures.ran);
      written_well = c.write_summary-told.ensures.faultless;
      tells = c.tell.ensures.told;
    }
