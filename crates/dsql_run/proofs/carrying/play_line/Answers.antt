use Rattle.std.proofs.Common.{refl, sym, ap, ◌∙◌, arith}
use Rattle.std.specs.Prelude.{Err}
use Rattle.dsql_run_outcome.specs.history.declared.event.Event.TheVariants.{Run}
use Rattle.dsql_run_outcome.specs.follows.Follows.{after}
use Rattle.dsql_run_outcome.specs.follows.Sentences.{after_part}
use Rattle.dsql_run_outcome.proofs.player_wires.Stopped.{all_taken}
use Rattle.dsql_run_outcome.specs.player.Carried.{part}
use Rattle.dsql_run_outcome.specs.player.Planned.{plans_of}
use Rattle.dsql_run_outcome.proofs.Following.{carried_stops, line_stops_short}
use Rattle.dsql_run_outcome.proofs.Writing.{shown_kinds}
use Rattle.dsql_run.proofs.Going.{line_extends, stop_extends, halted, halted_full, halted_plays, halted_writes, shown_unfilled}
use Rattle.dsql_run.proofs.Written.{grown, line_halted, line_shown}
use Rattle.dsql_run.proofs.carrying.play_line.Goals as goal

-- The line couldn't be carried out.

pub returns-in-Err-clause-between : goal.returns-in-Err-clause-between
returns-in-Err-clause-between g c = λ ran. absurd (cc (sym (halted c.stop_of_halt.result c.in-Err.halt c.stop_of_halt.ensures) ∙ ran))

pub returns-in-Err-clause-carries : goal.returns-in-Err-clause-carries
returns-in-Err-clause-carries g c = λ ran. absurd (cc (sym (halted c.stop_of_halt.result c.in-Err.halt c.stop_of_halt.ensures) ∙ ran))

pub returns-in-Err-clause-stops : goal.returns-in-Err-clause-stops
returns-in-Err-clause-stops g c = λ out. c.in-Err.ensures.stops

pub returns-in-Err-clause-short : goal.returns-in-Err-clause-short
returns-in-Err-clause-short g c = λ out caps lines parts follows at.
    line_stops_short (Run 1 caps) lines parts c.args.line c.args.player.now.past c.carry_line.new.player.past follows (c.in-Err.ensures.stops (after (Run 1 caps) parts) at)

pub returns-in-Err-clause-told : goal.returns-in-Err-clause-told
returns-in-Err-clause-told g c = λ ran. absurd (cc (sym (halted c.stop_of_halt.result c.in-Err.halt c.stop_of_halt.ensures) ∙ ran))

pub returns-in-Err-clause-asked : goal.returns-in-Err-clause-asked
returns-in-Err-clause-asked g c = c.in-Err.ensures.run.asked

pub returns-in-Err-clause-writes : goal.returns-in-Err-clause-writes
returns-in-Err-clause-writes g c =
    line_halted c.stop_of_halt.result c.in-Err.halt c.args.player.now.past c.carry_line.new.player.past (g.K.Sink.written c.args.output.now) c.args.shown.now c.stop_of_halt.ensures
    (stop_extends c.requires.between.moment c.args.line c.args.player.now.past c.carry_line.new.player.past (c.in-Err.ensures.stops c.requires.between.moment c.requires.between.at)) c.requires.shown

pub returns-in-Err-clause-kinds : goal.returns-in-Err-clause-kinds
returns-in-Err-clause-kinds g c = halted_plays c.stop_of_halt.result c.in-Err.halt c.stop_of_halt.ensures

pub returns-in-Err-clause-faults : goal.returns-in-Err-clause-faults
returns-in-Err-clause-faults g c = record {
  caused = λ failed. absurd (cc (sym failed ∙ halted_writes c.stop_of_halt.result c.in-Err.halt c.stop_of_halt.ensures));
  counted = omega arith;
  faultless = λ unfailed. refl;
}

pub returns-in-Err-clause-full : goal.returns-in-Err-clause-full
returns-in-Err-clause-full g c = λ full. c.carry_line.ensures.full (c.in-Err.is ∙ ap Err (halted_full c.stop_of_halt.result c.in-Err.halt (Err c.stop_of_halt.result) c.stop_of_halt.ensures refl full))

pub returns-in-Err-clause-on : goal.returns-in-Err-clause-on
returns-in-Err-clause-on g c = record {
  extends = stop_extends c.requires.between.moment c.args.line c.args.player.now.past c.carry_line.new.player.past (c.in-Err.ensures.stops c.requires.between.moment c.requires.between.at);
  able = c.carry_line.ensures.run.able;
  legal = c.carry_line.ensures.run.legal;
}

-- The line was carried out, and its events are written.

pub show_history-requires-clause-within : goal.show_history-requires-clause-within
show_history-requires-clause-within g c =
    omega (
      arith,
      c.requires.shown,
      grown c.args.player.now.past c.carry_line.new.player.past (line_extends c.requires.between.moment c.args.line c.args.player.now c.carry_line.new.player (c.in-Ok.ensures.carries c.requires.between.moment c.requires.between.at)),
    )

pub returns-in-Ok-clause-between : goal.returns-in-Ok-clause-between
returns-in-Ok-clause-between g c = λ ran.
    let carries = c.in-Ok.ensures.carries c.requires.between.moment c.requires.between.at in
    record {
      ready = c.in-Ok.ensures.run.ready;
      running = c.in-Ok.ensures.course.ended ∙ c.requires.between.running;
      wires = c.in-Ok.ensures.run.wires;
      moment = after_part c.requires.between.moment (part c.args.line carries.events);
      at = carries.at;
    }

pub returns-in-Ok-clause-carries : goal.returns-in-Ok-clause-carries
returns-in-Ok-clause-carries g c = λ ran. c.in-Ok.ensures.carries

pub returns-in-Ok-clause-stops : goal.returns-in-Ok-clause-stops
returns-in-Ok-clause-stops g c = λ out m at. carried_stops m c.args.line c.args.player.now c.carry_line.new.player (c.in-Ok.ensures.carries m at)

pub returns-in-Ok-clause-short : goal.returns-in-Ok-clause-short
returns-in-Ok-clause-short g c = λ out caps lines parts follows at.
    let m = after (Run 1 caps) parts in
    line_stops_short (Run 1 caps) lines parts c.args.line c.args.player.now.past c.carry_line.new.player.past follows
    (carried_stops m c.args.line c.args.player.now c.carry_line.new.player (c.in-Ok.ensures.carries m at))

pub returns-in-Ok-clause-told : goal.returns-in-Ok-clause-told
returns-in-Ok-clause-told g c = λ ran. c.in-Ok.ensures.run.told

pub returns-in-Ok-clause-asked : goal.returns-in-Ok-clause-asked
returns-in-Ok-clause-asked g c =
    all_taken g.F.Wire.Wire.told (plans_of c.args.line c.args.player.now.past) (g.F.Fleet.told c.args.fleet.now) (g.F.Fleet.told c.carry_line.new.fleet) c.args.player.now.past c.carry_line.new.player.past c.args.wires.now c.carry_line.new.wires
    c.in-Ok.ensures.run.told c.in-Ok.ensures.run.wires

pub returns-in-Ok-clause-writes : goal.returns-in-Ok-clause-writes
returns-in-Ok-clause-writes g c =
    line_shown c.show_history.result c.args.player.now.past c.carry_line.new.player.past (g.K.Sink.written c.args.output.now) (g.K.Sink.written c.show_history.new.output) c.args.shown.now c.show_history.new.shown
    (line_extends c.requires.between.moment c.args.line c.args.player.now c.carry_line.new.player (c.in-Ok.ensures.carries c.requires.between.moment c.requires.between.at))
    c.requires.shown c.show_history.ensures.kinds c.show_history.ensures.ok c.show_history.ensures.within c.show_history.ensures.shows c.show_history.ensures.stops

pub returns-in-Ok-clause-kinds : goal.returns-in-Ok-clause-kinds
returns-in-Ok-clause-kinds g c = shown_kinds c.show_history.result c.show_history.ensures.kinds

pub returns-in-Ok-clause-full : goal.returns-in-Ok-clause-full
returns-in-Ok-clause-full g c = λ full. absurd (shown_unfilled c.show_history.result c.show_history.ensures.kinds full)

pub returns-in-Ok-clause-on : goal.returns-in-Ok-clause-on
returns-in-Ok-clause-on g c = record {
  extends = line_extends c.requires.between.moment c.args.line c.args.player.now c.carry_line.new.player (c.in-Ok.ensures.carries c.requires.between.moment c.requires.between.at);
  able = c.carry_line.ensures.run.able;
  legal = c.carry_line.ensures.run.legal;
}
