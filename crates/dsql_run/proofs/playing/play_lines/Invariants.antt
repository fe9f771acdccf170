use Rattle.std.proofs.Common.{◌≡◌, ◌≤◌, ◌-◌, ◌+◌, ℕ, true, List, Option, length}
use Rattle.std.specs.Prelude.{is_some, Ok, IfSome}
use Rattle.dsql_run_outcome.specs.driver.declared.caps.Caps.{Caps}
use Rattle.dsql_run_outcome.specs.history.declared.event.Event.TheVariants.{Run}
use Rattle.dsql_run_outcome.specs.follows.declared.line.Line.{Line}
use Rattle.dsql_run_outcome.specs.script_report.Lines.{text_of}
use Rattle.dsql_run_outcome.specs.script_reader.ScriptLines.{most_lines}
use Rattle.dsql_run_outcome.specs.script_reader.declared.script.Head.{Head}
use Rattle.dsql_run_outcome.specs.player_wires.Extends.{Extends}
use Rattle.dsql_run_outcome.specs.script_show.Report.{with_text}
use Rattle.dsql_run_outcome.specs.script_source.Reading.{IsBodyLine}
use Rattle.dsql_run_outcome.specs.Lent.{lent}
use Rattle.dsql_run_outcome.specs.Playing.{HasHead, MatchesLabels}
use Rattle.dsql_run_outcome.specs.Runs.{Between}
use Rattle.dsql_run_outcome.proofs.Lines.{LinesSoFar}
use Rattle.dsql_run.proofs.Heading.{one_if}
use Rattle.dsql_run.proofs.playing.play_lines.Given as goal

abbrev pub decreases-loop-next : goal.decreases-loop-next
decreases-loop-next g l = (10001 - l.script.reader.lines) + one_if l.next

abbrev pub invariant-loop-next : goal.invariant-loop-next
invariant-loop-next g l = record {
  between : Between g.F.Wire.Wire.told (is_some (g.F.Fleet.told l.fleet)) l.player l.wires;
  so_far : (before : Option (List ℕ)) (asked : Option Caps) (skipped : List Line) → HasHead l.fn.first before l.fn.script (g.S.Source.left l.fn.input) asked skipped
      → LinesSoFar (Ok l.next) before l.script (g.S.Source.left l.input) asked (Run 1 (g.F.Fleet.ability l.fn.fleet)) l.player (lent g.F.Fleet g.F.Wire.Wire.told l.fn.fleet l.fleet l.wires);
  body : IsBodyLine l.next;
  headed : IfSome l.next (λ _. l.script.reader.head ≡ Head.Begun);
  few : IfSome l.next (λ _. l.script.reader.lines ≤ most_lines);
  named : MatchesLabels l.next l.script.reader l.player;
  shown : l.shown ≡ length l.player.past;
  trimmed : l.player.trimmed ≤ l.shown;
  kept : l.fn.keeps ≡ true → l.player.trimmed ≡ 0;
  written : (w : Option (List ℕ)) → g.K.Sink.written l.initial.output ≡ with_text w (text_of l.initial.player.past) → g.K.Sink.written l.output ≡ with_text w (text_of l.player.past);
  reads : g.S.Source.faults l.input ≡ g.S.Source.faults l.initial.input;
  writes : g.K.Sink.faults l.output ≡ g.K.Sink.faults l.initial.output;
  extends : Extends l.initial.player.past l.player.past;
  ability : g.F.Fleet.ability l.fleet ≡ g.F.Fleet.ability l.initial.fleet;
  preferred : g.F.Fleet.preferred l.fleet ≡ g.F.Fleet.preferred l.initial.fleet;
}
