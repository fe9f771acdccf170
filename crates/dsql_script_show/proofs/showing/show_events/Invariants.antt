use Rattle.std.proofs.Common.{◌≡◌, ◌≤◌, ◌-◌, length, take}
use Rattle.std.specs.Prelude.{reverse}
use Rattle.dsql_script_report.specs.Lines.{text_of}
use Rattle.dsql_script_show.specs.Report.{with_text}
use Rattle.dsql_script_show.proofs.showing.show_events.Given as goal

abbrev pub decreases-loop-done : goal.decreases-loop-done
decreases-loop-done g l = length l.events - l.done

abbrev pub invariant-loop-done : goal.invariant-loop-done
invariant-loop-done g l = record {
  within : l.done ≤ length l.events;
  front : g.K.Sink.written l.output ≡ with_text (g.K.Sink.written l.initial.output) (text_of (reverse (take l.done l.events)));
  faultless : g.K.Sink.faults l.output ≡ g.K.Sink.faults l.initial.output;
}
