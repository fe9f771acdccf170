use Rattle.std.proofs.Common.{false, ◌≡◌, ◌≤◌, ◌+◌, ℕ, ◌∙◌, true, List, refl, ap, sym, subst, arith, length}
use Rattle.std.specs.Prelude.{IfSome, Ok, Err, is_some}
use Rattle.std.proofs.lemmas.Result.{IfOk-at_ok}
use Rattle.dsql_run_outcome.specs.history.declared.event.Event.{Event}
use Rattle.dsql_run_outcome.specs.history.declared.event.Event.TheVariants.{Run}
use Rattle.dsql_run_outcome.specs.script_reader.ScriptLines.{most_lines}
use Rattle.dsql_run_outcome.specs.script_reader.declared.script.Head.TheVariants.{Begun}
use Rattle.dsql_run_outcome.specs.script_report.Lines.{text_of}
use Rattle.dsql_run_outcome.specs.script_show.Report.{with_text}
use Rattle.dsql_run_outcome.specs.follows.Moments.{Moment}
use Rattle.dsql_run_outcome.specs.player.Carried.{Carries, StopsInLine}
use Rattle.dsql_run_outcome.specs.follows.Labels.{times_in}
use Rattle.dsql_run_outcome.specs.player.Naming.{times}
use Rattle.dsql_run_outcome.specs.player.Planned.{plans_of}
use Rattle.dsql_run_outcome.specs.player.Playing.{IsAt}
use Rattle.dsql_run_outcome.specs.script_source.Plays.{saying}
use Rattle.dsql_run_outcome.specs.script_source.Reading.{IsBodyLine, is_body}
use Rattle.dsql_run_outcome.proofs.script_source.Errors.{err_is}
use Rattle.dsql_run_outcome.specs.player_wires.Extends.{Extends}
use Rattle.dsql_run_outcome.specs.player_wires.Stopped.{RecordsAtMost}
use Rattle.dsql_run_outcome.specs.player_wires.Told.{FleetTells}
use Rattle.dsql_run_outcome.specs.Lent.{lent}
use Rattle.dsql_run_outcome.proofs.player_wires.Extending.{extends_same, extends_then}
use Rattle.dsql_run_outcome.specs.Playing.{MatchesLabels}
use Rattle.dsql_run_outcome.specs.Runs.{IsLinesEnd, ran_out}
use Rattle.dsql_run_outcome.proofs.Ending.{failed_is}
use Rattle.dsql_run_outcome.proofs.Lines.{first_cut, first_ends, first_so_far, first_stops, line_ends, line_so_far, play_ends_none, read_ends, script_ends}
use Rattle.dsql_run_outcome.proofs.Writing.{all_shown, no_text, show_stops, wrote_at_rest, wrote_shown}
use Rattle.dsql_run.proofs.Going.{begins_telling}
use Rattle.dsql_run.proofs.Trimming.{between_still, so_far_still}
use Rattle.dsql_run.proofs.Heading.{always_headed, fewer}
use Rattle.dsql_run.proofs.Labelled.{next_is_new, next_matches}
use Rattle.dsql_run.proofs.playing.play_lines.Goals as goal

-- The run's first event couldn't be written.

pub returns-in_err-show_history-clause-lines : goal.returns-in_err-show_history-clause-lines
returns-in_err-show_history-clause-lines g c = λ before asked skipped head.
    let stop = c.in_err-show_history.field-0.0 in
    let is : c.from_residual.result ≡ Err stop = err_is c.from_residual.result stop c.from_residual.ensures.1 in
    let w = g.K.Sink.written c.args.output.now in
    rw is
    (first_stops stop c.args.first before c.args.script.now (g.S.Source.left c.args.input.now) (g.S.Source.left c.args.input.now) c.args.script.now.reader.lines asked skipped (g.F.Fleet.ability c.args.fleet.now) c.args.player.now w (g.K.Sink.written c.show_history.new.output)
    (lent g.F.Fleet g.F.Wire.Wire.told c.args.fleet.now c.args.fleet.now c.args.wires.now) (show_stops stop c.in_err-show_history.ensures.kinds) c.requires.first.body c.requires.begun c.requires.at
    (begins_telling g.F.Fleet g.F.Wire.Wire.told c.args.fleet.now c.args.wires.now (g.F.Fleet.ability c.args.fleet.now) c.args.player.now.past c.requires.begun c.requires.unplanned) head
    (first_cut w (g.K.Sink.written c.show_history.new.output) c.args.shown.now c.args.player.now.past (g.F.Fleet.ability c.args.fleet.now) c.requires.shown c.requires.begun
    (c.in_err-show_history.ensures.stops w (rw c.requires.shown (sym (no_text w))))) c.requires.between.wires)

pub returns-in_err-show_history-clause-writes : goal.returns-in_err-show_history-clause-writes
returns-in_err-show_history-clause-writes g c =
    let stop = c.in_err-show_history.field-0.0 in
    let is : c.from_residual.result ≡ Err stop = err_is c.from_residual.result stop c.from_residual.ensures.1 in
    let w = g.K.Sink.written c.args.output.now in
    record {
      shown = λ over. absurd {A = c.show_history.new.shown ≡ length c.args.player.now.past} (play_ends_none stop (show_stops stop c.in_err-show_history.ensures.kinds) (subst IsLinesEnd is over));
      within = c.show_history.ensures.within;
      wrote = rw is
          (wrote_shown (Err stop) w (g.K.Sink.written c.show_history.new.output) c.show_history.new.shown c.args.shown.now c.args.player.now.past c.in_err-show_history.ensures.kinds tt tt
          (c.in_err-show_history.ensures.stops w (rw c.requires.shown (sym (no_text w)))));
    }

-- The first line couldn't be read.

pub returns-in_err-next-clause-lines : goal.returns-in_err-next-clause-lines
returns-in_err-next-clause-lines g c = λ before asked skipped head.
    let stop = c.in_err-next.field-0.0 in
    let is : c.from_residual-in_err-next.result ≡ Err stop = err_is c.from_residual-in_err-next.result stop c.from_residual-in_err-next.ensures.1 in
    rw is
    (first_ends c.args.first stop before c.args.script.now (g.S.Source.left c.args.input.now) asked skipped (g.F.Fleet.ability c.args.fleet.now) c.args.player.now (g.K.Sink.written c.args.output.now) (g.K.Sink.written c.show_history.new.output)
    (lent g.F.Fleet g.F.Wire.Wire.told c.args.fleet.now c.args.fleet.now c.args.wires.now) c.in_err-next.was c.requires.first.readable c.requires.begun c.requires.at
    (begins_telling g.F.Fleet g.F.Wire.Wire.told c.args.fleet.now c.args.wires.now (g.F.Fleet.ability c.args.fleet.now) c.args.player.now.past c.requires.begun c.requires.unplanned) head c.requires.between.wires)

pub returns-in_err-next-clause-writes : goal.returns-in_err-next-clause-writes
returns-in_err-next-clause-writes g c =
    let w = g.K.Sink.written c.args.output.now in
    let start : g.K.Sink.written c.show_history.new.output ≡ with_text w (text_of c.args.player.now.past) = c.in_ok-show_history.ensures.shows w (rw c.requires.shown (sym (no_text w))) in
    record {
      shown = λ over. c.in_ok-show_history.ensures.ok;
      within = c.show_history.ensures.within;
      wrote = wrote_at_rest c.from_residual-in_err-next.result w (g.K.Sink.written c.show_history.new.output) c.show_history.new.shown c.args.player.now.past c.in_ok-show_history.ensures.ok start;
    }

-- A line couldn't be played.

pub returns-in_err-play_line-clause-lines : goal.returns-in_err-play_line-clause-lines
returns-in_err-play_line-clause-lines g c = λ before asked skipped head.
    let stop = c.in_err-play_line.field-0.0 in
    let is : c.from_residual-in_err-play_line.result ≡ Err stop = err_is c.from_residual-in_err-play_line.result stop c.from_residual-in_err-play_line.ensures.1 in
    let w = g.K.Sink.written c.args.output.now in
    let start : g.K.Sink.written c.show_history.new.output ≡ with_text w (text_of c.args.player.now.past) = c.in_ok-show_history.ensures.shows w (rw c.requires.shown (sym (no_text w))) in
    let body : is_body c.in-Some.line ≡ true = rw c.in-Some.is at c.loop-next.invariant.body in
    rw is
    (line_ends stop c.loop-next.next before c.loop-next.script (g.S.Source.left c.loop-next.input) (g.S.Source.left c.loop-next.input) c.loop-next.script.reader.lines asked (Run 1 (g.F.Fleet.ability c.args.fleet.now)) c.in-Some.line c.loop-next.player c.play_line.new.player
    w (g.K.Sink.written c.play_line.new.output) (lent g.F.Fleet g.F.Wire.Wire.told c.args.fleet.now c.loop-next.fleet c.loop-next.wires) (g.F.Fleet.told c.play_line.new.fleet) c.play_line.new.wires c.in_err-play_line.ensures.kinds c.in-Some.is body (c.loop-next.invariant.so_far before asked skipped head)
    (λ ran. subst (λ line. (m : Moment) → IsAt m c.loop-next.player → Carries m line c.loop-next.player c.play_line.new.player) c.line_as_played.ensures (c.in_err-play_line.ensures.carries ran))
    (λ out. subst (λ line. (m : Moment) → IsAt m c.loop-next.player → StopsInLine m line c.loop-next.player.past c.play_line.new.player.past) c.line_as_played.ensures (c.in_err-play_line.ensures.stops out))
    (λ ran made just. (subst (λ line. FleetTells g.F.Wire.Wire.told (plans_of line c.loop-next.player.past) (g.F.Fleet.told c.loop-next.fleet) (g.F.Fleet.told c.play_line.new.fleet) c.loop-next.player.past c.play_line.new.player.past c.loop-next.wires c.play_line.new.wires)
    c.line_as_played.ensures (c.in_err-play_line.ensures.told ran)).told made (g.F.Fleet.told c.args.fleet.now) just)
    (subst (λ line. RecordsAtMost g.F.Wire.Wire.told (plans_of line c.loop-next.player.past) (g.F.Fleet.told c.loop-next.fleet) (g.F.Fleet.told c.play_line.new.fleet) c.loop-next.player.past c.play_line.new.player.past c.loop-next.wires c.play_line.new.wires)
    c.line_as_played.ensures c.play_line.ensures.asked)
    (λ failed. c.in_err-play_line.ensures.writes.cut w (c.loop-next.invariant.written w start) (failed_is (Err stop) failed)))

pub returns-in_err-play_line-clause-writes : goal.returns-in_err-play_line-clause-writes
returns-in_err-play_line-clause-writes g c =
    let stop = c.in_err-play_line.field-0.0 in
    let is : c.from_residual-in_err-play_line.result ≡ Err stop = err_is c.from_residual-in_err-play_line.result stop c.from_residual-in_err-play_line.ensures.1 in
    let w = g.K.Sink.written c.args.output.now in
    let start : g.K.Sink.written c.show_history.new.output ≡ with_text w (text_of c.args.player.now.past) = c.in_ok-show_history.ensures.shows w (rw c.requires.shown (sym (no_text w))) in
    record {
      shown = λ over. absurd {A = c.play_line.new.shown ≡ length c.play_line.new.player.past} (play_ends_none stop c.in_err-play_line.ensures.kinds (subst IsLinesEnd is over));
      within = c.play_line.ensures.writes.within;
      wrote = rw is (c.in_err-play_line.ensures.writes.wrote w (c.loop-next.invariant.written w start));
    }

pub returns-in_err-play_line-clause-on : goal.returns-in_err-play_line-clause-on
returns-in_err-play_line-clause-on g c = record {
  extends = extends_then c.args.player.now.past c.loop-next.player.past c.play_line.new.player.past c.loop-next.invariant.extends c.play_line.ensures.on.extends;
  able = record { ability = c.play_line.ensures.on.able.ability ∙ c.loop-next.invariant.ability; preferred = c.play_line.ensures.on.able.preferred ∙ c.loop-next.invariant.preferred };
  legal = c.play_line.ensures.on.legal;
}

pub returns-in_err-play_line-clause-between : goal.returns-in_err-play_line-clause-between
returns-in_err-play_line-clause-between g c = λ ran.
    let stop = c.in_err-play_line.field-0.0 in
    let is : c.from_residual-in_err-play_line.result ≡ Err stop = err_is c.from_residual-in_err-play_line.result stop c.from_residual-in_err-play_line.ensures.1 in
    c.in_err-play_line.ensures.between (subst (λ r. ran_out r ≡ true) is ran)

-- The next line couldn't be read.

pub returns-in_err-next-2-clause-lines : goal.returns-in_err-next-2-clause-lines
returns-in_err-next-2-clause-lines g c = λ before asked skipped head.
    let stop = c.in_err-next-2.field-0.0 in
    let is : c.from_residual-in_err-next-2.result ≡ Err stop = err_is c.from_residual-in_err-next-2.result stop c.from_residual-in_err-next-2.ensures.1 in
    let body : is_body c.in-Some.line ≡ true = rw c.in-Some.is at c.loop-next.invariant.body in
    rw is
    (read_ends stop before c.next.new.self (g.S.Source.left c.next.new.input) asked (g.F.Fleet.ability c.args.fleet.now) c.play_line.new.player (g.K.Sink.written c.args.output.now) (g.K.Sink.written c.play_line.new.output) (lent g.F.Fleet g.F.Wire.Wire.told c.args.fleet.now c.play_line.new.fleet c.play_line.new.wires) c.in_err-next-2.ensures.readable
    (line_so_far c.loop-next.next (Err stop) before c.loop-next.script c.next.new.self (g.S.Source.left c.loop-next.input) (g.S.Source.left c.next.new.input) asked (Run 1 (g.F.Fleet.ability c.args.fleet.now)) c.in-Some.line
    c.loop-next.player c.play_line.new.player (lent g.F.Fleet g.F.Wire.Wire.told c.args.fleet.now c.loop-next.fleet c.loop-next.wires) (lent g.F.Fleet g.F.Wire.Wire.told c.args.fleet.now c.play_line.new.fleet c.play_line.new.wires) c.in-Some.is body (c.loop-next.invariant.so_far before asked skipped head)
    (subst (λ line. (m : Moment) → IsAt m c.loop-next.player → Carries m line c.loop-next.player c.play_line.new.player) c.line_as_played.ensures (c.in_ok-play_line.ensures.carries refl))
    (λ made just. (subst (λ line. FleetTells g.F.Wire.Wire.told (plans_of line c.loop-next.player.past) (g.F.Fleet.told c.loop-next.fleet) (g.F.Fleet.told c.play_line.new.fleet) c.loop-next.player.past c.play_line.new.player.past c.loop-next.wires c.play_line.new.wires)
    c.line_as_played.ensures (c.in_ok-play_line.ensures.told refl)).told made (g.F.Fleet.told c.args.fleet.now) just)
    (λ lines read. c.in_err-next-2.ensures.reads false before (saying asked lines) read) (λ lines read. c.in_err-next-2.ensures.counted false before (saying asked lines) read))
    (c.in_ok-play_line.ensures.between refl).wires)

pub returns-in_err-next-2-clause-writes : goal.returns-in_err-next-2-clause-writes
returns-in_err-next-2-clause-writes g c =
    let w = g.K.Sink.written c.args.output.now in
    let start : g.K.Sink.written c.show_history.new.output ≡ with_text w (text_of c.args.player.now.past) = c.in_ok-show_history.ensures.shows w (rw c.requires.shown (sym (no_text w))) in
    record {
      shown = λ over. c.in_ok-play_line.ensures.writes.shown;
      within = c.play_line.ensures.writes.within;
      wrote = wrote_at_rest c.from_residual-in_err-next-2.result w (g.K.Sink.written c.play_line.new.output) c.play_line.new.shown c.play_line.new.player.past c.in_ok-play_line.ensures.writes.shown
          (all_shown w (g.K.Sink.written c.play_line.new.output) c.play_line.new.shown c.play_line.new.player.past c.in_ok-play_line.ensures.writes.shown (c.in_ok-play_line.ensures.writes.wrote w (c.loop-next.invariant.written w start)));
    }

pub returns-in_err-next-2-clause-on : goal.returns-in_err-next-2-clause-on
returns-in_err-next-2-clause-on g c = record {
  extends = extends_then c.args.player.now.past c.loop-next.player.past c.play_line.new.player.past c.loop-next.invariant.extends c.play_line.ensures.on.extends;
  able = record { ability = c.play_line.ensures.on.able.ability ∙ c.loop-next.invariant.ability; preferred = c.play_line.ensures.on.able.preferred ∙ c.loop-next.invariant.preferred };
  legal = c.play_line.ensures.on.legal;
}

-- The loop goes on with the next line.

pub loop-next-init : goal.loop-next-init
loop-next-init g c = record {
  between = c.requires.between;
  so_far = λ before asked skipped head. first_so_far c.args.first c.in_ok-next.next before c.args.script.now (g.S.Source.left c.args.input.now) asked skipped (g.F.Fleet.ability c.args.fleet.now) c.args.player.now
      (lent g.F.Fleet g.F.Wire.Wire.told c.args.fleet.now c.args.fleet.now c.args.wires.now) c.in_ok-next.was c.requires.begun c.requires.at (begins_telling g.F.Fleet g.F.Wire.Wire.told c.args.fleet.now c.args.wires.now (g.F.Fleet.ability c.args.fleet.now) c.args.player.now.past c.requires.begun c.requires.unplanned) head;
  body = IfOk-at_ok IsBodyLine c.in_ok-next.was c.requires.first.body;
  headed = IfOk-at_ok (λ line. IfSome line (λ _. c.args.script.now.reader.head ≡ Begun)) c.in_ok-next.was c.requires.first.begun;
  few = IfOk-at_ok (λ line. IfSome line (λ _. c.args.script.now.reader.lines ≤ most_lines)) c.in_ok-next.was c.requires.first.few;
  named = IfOk-at_ok (λ line. MatchesLabels line c.args.script.now.reader c.args.player.now) c.in_ok-next.was c.requires.named;
  shown = c.in_ok-show_history.ensures.ok;
  trimmed = c.show_history.ensures.trimmed;
  kept = λ keeps. c.requires.whole;
  written = λ w start. start;
  reads = refl;
  writes = refl;
  extends = extends_same c.args.player.now.past;
  ability = refl;
  preferred = refl;
}

pub play_line-requires-clause-names : goal.play_line-requires-clause-names
play_line-requires-clause-names g c =
    λ κs within. rw c.line_as_played.ensures (next_is_new c.loop-next.next c.in-Some.line c.loop-next.script.reader c.loop-next.player c.loop-next.invariant.named c.in-Some.is)

pub trim_shown-requires : goal.trim_shown-requires
trim_shown-requires g c = omega (arith, c.play_line.ensures.least, c.in_ok-play_line.ensures.writes.shown)

pub loop-next-smaller : goal.loop-next-smaller
loop-next-smaller g c =
    let less = fewer c.in_ok-next-2.next c.loop-next.script.reader c.next.new.self.reader c.in_ok-next-2.ensures.numbered c.in_ok-next-2.ensures.few c.in_ok-next-2.ensures.stays in
    rw c.in-Some.is less

pub loop-next-preserved : goal.loop-next-preserved
loop-next-preserved g c =
    let body : is_body c.in-Some.line ≡ true = rw c.in-Some.is at c.loop-next.invariant.body in
    let begun = rw c.in-Some.is at c.loop-next.invariant.headed in
    let mid = c.play_line.new.player in
    let new = c.trim_shown.new.player in
    let same = c.trim_shown.ensures.past in
    let stays = c.trim_shown.ensures.at in
    record {
      between = between_still mid new same stays g.F.Wire.Wire.told (is_some (g.F.Fleet.told c.play_line.new.fleet)) c.play_line.new.wires c.trim_shown.ensures.ready (c.in_ok-play_line.ensures.between refl);
      so_far = λ before asked skipped head.
          so_far_still mid new same stays (Ok c.in_ok-next-2.next) before c.next.new.self (g.S.Source.left c.next.new.input) asked (Run 1 (g.F.Fleet.ability c.args.fleet.now)) (lent g.F.Fleet g.F.Wire.Wire.told c.args.fleet.now c.play_line.new.fleet c.play_line.new.wires)
          (line_so_far c.loop-next.next (Ok c.in_ok-next-2.next) before c.loop-next.script c.next.new.self (g.S.Source.left c.loop-next.input) (g.S.Source.left c.next.new.input) asked (Run 1 (g.F.Fleet.ability c.args.fleet.now)) c.in-Some.line
          c.loop-next.player c.play_line.new.player (lent g.F.Fleet g.F.Wire.Wire.told c.args.fleet.now c.loop-next.fleet c.loop-next.wires) (lent g.F.Fleet g.F.Wire.Wire.told c.args.fleet.now c.play_line.new.fleet c.play_line.new.wires) c.in-Some.is body (c.loop-next.invariant.so_far before asked skipped head)
          (subst (λ line. (m : Moment) → IsAt m c.loop-next.player → Carries m line c.loop-next.player c.play_line.new.player) c.line_as_played.ensures (c.in_ok-play_line.ensures.carries refl))
          (λ made just. (subst (λ line. FleetTells g.F.Wire.Wire.told (plans_of line c.loop-next.player.past) (g.F.Fleet.told c.loop-next.fleet) (g.F.Fleet.told c.play_line.new.fleet) c.loop-next.player.past c.play_line.new.player.past c.loop-next.wires c.play_line.new.wires)
          c.line_as_played.ensures (c.in_ok-play_line.ensures.told refl)).told made (g.F.Fleet.told c.args.fleet.now) just)
          (λ lines read. c.in_ok-next-2.ensures.reads false before (saying asked lines) read) (λ lines read. c.in_ok-next-2.ensures.counted false before (saying asked lines) read));
      body = c.in_ok-next-2.ensures.body begun;
      headed = always_headed c.in_ok-next-2.next c.next.new.self.reader (c.in_ok-next-2.ensures.begun begun);
      few = c.in_ok-next-2.ensures.few;
      named = next_matches c.loop-next.next c.in_ok-next-2.next c.in-Some.line c.loop-next.script.reader c.next.new.self.reader c.loop-next.player mid new c.loop-next.invariant.named c.in-Some.is c.in_ok-next-2.ensures.named
          (subst (λ it. (label : List ℕ) → times label mid.past mid.seats ≡ times_in label it + times label c.loop-next.player.past c.loop-next.player.seats) c.line_as_played.ensures (c.in_ok-play_line.ensures.named refl)) same
          c.trim_shown.ensures.seats;
      shown = c.in_ok-play_line.ensures.writes.shown ∙ ap length (sym same);
      trimmed = omega (arith, c.in_ok-play_line.ensures.writes.shown, ap length same, c.trim_shown.ensures.within);
      kept = λ keeps. c.trim_shown.ensures.kept keeps ∙ (c.play_line.ensures.trimmed ∙ c.loop-next.invariant.kept keeps);
      written = λ w start. subst (λ (past : List Event). g.K.Sink.written c.play_line.new.output ≡ with_text w (text_of past)) (sym same)
          (all_shown w (g.K.Sink.written c.play_line.new.output) c.play_line.new.shown c.play_line.new.player.past c.in_ok-play_line.ensures.writes.shown
          (c.in_ok-play_line.ensures.writes.wrote w (c.loop-next.invariant.written w start)));
      reads = c.in_ok-next-2.ensures.faults.faultless refl ∙ c.loop-next.invariant.reads;
      writes = c.in_ok-play_line.ensures.faults.faultless refl ∙ c.loop-next.invariant.writes;
      extends = subst (λ (past : List Event). Extends c.args.player.now.past past) (sym same) (extends_then c.args.player.now.past c.loop-next.player.past mid.past c.loop-next.invariant.extends c.play_line.ensures.on.extends);
      ability = c.play_line.ensures.on.able.ability ∙ c.loop-next.invariant.ability;
      preferred = c.play_line.ensures.on.able.preferred ∙ c.loop-next.invariant.preferred;
    }

-- The script's end was read.

pub returns-clause-lines : goal.returns-clause-lines
returns-clause-lines g c = λ before asked skipped head.
    script_ends c.loop-next.next before c.loop-next.script (g.S.Source.left c.loop-next.input) asked (g.F.Fleet.ability c.args.fleet.now) c.loop-next.player (g.K.Sink.written c.args.output.now) (g.K.Sink.written c.loop-next.output) (lent g.F.Fleet g.F.Wire.Wire.told c.args.fleet.now c.loop-next.fleet c.loop-next.wires) c.in_default.is
    (c.loop-next.invariant.so_far before asked skipped head) c.loop-next.invariant.between.wires

pub returns-clause-writes : goal.returns-clause-writes
returns-clause-writes g c =
    let w = g.K.Sink.written c.args.output.now in
    let start : g.K.Sink.written c.show_history.new.output ≡ with_text w (text_of c.args.player.now.past) = c.in_ok-show_history.ensures.shows w (rw c.requires.shown (sym (no_text w))) in
    record {
      shown = λ over. c.loop-next.invariant.shown;
      within = omega (arith, c.loop-next.invariant.shown);
      wrote = wrote_at_rest (Ok tt) w (g.K.Sink.written c.loop-next.output) c.loop-next.shown c.loop-next.player.past c.loop-next.invariant.shown (c.loop-next.invariant.written w start);
    }
