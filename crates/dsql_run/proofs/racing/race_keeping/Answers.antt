use Rattle.std.proofs.Common.{◌∙◌, ◌||◌, inl, subst, ℕ}
use Rattle.dsql_laws_apart.proofs.Histories.{all_apart}
use Rattle.dsql_run_outcome.specs.driver.Streams.{has_risen}
use Rattle.dsql_run_outcome.specs.history.declared.event.Event.TheVariants.{Run}
use Rattle.dsql_run_outcome.specs.script_report.Lines.{text_of}
use Rattle.dsql_run_outcome.specs.script_show.Report.{StopsBetween, oldest}
use Rattle.dsql_run_outcome.specs.Headline.{seen}
use Rattle.dsql_run_outcome.specs.Racing.{LinesRaced}
use Rattle.dsql_run_outcome.specs.Runs.{Writes}
use Rattle.dsql_run_outcome.proofs.Racing.{race_ran, shows_none, unwritten_yet, wrote_none}
use Rattle.dsql_run.proofs.racing.race_keeping.Goals as goal

pub returns : goal.returns
returns g c =
    let read = c.read_script-read in
    let race = c.race_read-player in
    let end = c.finish-stopped in
    let past = race.result.player.past in
    let w = g.K.Sink.written c.args.output.now in
    let now = g.K.Sink.written end.new.output in
    let raced : LinesRaced race.result.stopped (Run 1 (g.F.Fleet.ability race.new.fleet)) read.result.lines.items past (g.F.Fleet.told c.args.fleet.now) (g.F.Fleet.told race.new.fleet) =
    rw (race.ensures.able.ability, ← read.ensures.untold) race.ensures.raced in
    inl
    (race_ran read.result.stopped race.result.stopped end.result
    (seen g.S.Source g.K.Sink g.F.Fleet c.args.input.now c.args.output.now c.args.fleet.now)
    (seen g.S.Source g.K.Sink g.F.Fleet read.new.input end.new.output race.new.fleet) read.result.lines.items past read.ensures.readable read.ensures.faults
    (record {
      asked = read.ensures.reads.asked;
      plays = read.ensures.reads.plays;
      prefers = record { preferred = race.ensures.able.preferred ∙ read.ensures.reads.prefers.preferred; same = λ none. race.ensures.able.ability ∙ read.ensures.reads.prefers.same none };
      ended = read.ensures.reads.ended;
    })
    raced (all_apart past raced.legal.lawful)
    (record {
      same = race.ensures.same;
      finishes = end.ensures.result;
      writes = subst (λ failed. Writes end.result (failed || has_risen (g.K.Sink.faults c.args.output.now) (g.K.Sink.faults end.new.output)) w past now) (unwritten_yet read.result.stopped read.ensures.readable)
          (end.ensures.wrote w (wrote_none read.result.stopped w c.none.result past c.none.ensures));
      stops = λ unfailed failed. subst (λ (n : ℕ). StopsBetween w (text_of (oldest n past)) (text_of past) now) c.none.ensures (end.ensures.stops w (shows_none w c.none.result past c.none.ensures) unfailed failed);
      failed = λ failed. end.ensures.caused failed (unwritten_yet read.result.stopped read.ensures.readable);
      well = end.ensures.faultless;
    }))
