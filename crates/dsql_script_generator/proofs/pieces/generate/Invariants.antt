use Rattle.std.proofs.Common.{◌≡◌, ◌≤◌, ◌-◌}
use Rattle.dsql_script_show.specs.Report.{with_text}
use Rattle.dsql_script_generator.specs.Script.{generated}
use Rattle.dsql_script_generator.proofs.pieces.generate.Given as goal

abbrev pub decreases-loop-written : goal.decreases-loop-written
decreases-loop-written g l = l.lines - l.written

abbrev pub invariant-loop-written : goal.invariant-loop-written
invariant-loop-written g l = record {
  within : l.written ≤ l.lines;
  holds : g.K.Sink.written l.output ≡ with_text (g.K.Sink.written l.initial.output) (generated l.written);
  faultless : g.K.Sink.faults l.output ≡ g.K.Sink.faults l.initial.output;
}
