use Rattle.std.proofs.Common.{◌≡◌, ◌++◌, ◌≤◌, length, map}
use Rattle.dsql_driver_stream.specs.Lines.{all_lines}
use Rattle.dsql_script.specs.event_reader.Events.{reading_of}
use Rattle.dsql_timeline_picture.specs.declared.picture.TheConstants.{MOST_EVENTS}
use Rattle.timeline.specs.Reading.{readings}
use Rattle.timeline.proofs.report.read_report.Given as goal

abbrev pub invariant-loop-rest : goal.invariant-loop-rest
invariant-loop-rest l = record {
  read : map reading_of (all_lines l.report) ≡ readings l.events.items ++ map reading_of (all_lines l.rest);
  few : length l.events.items ≤ MOST_EVENTS;
}

abbrev pub decreases-loop-rest : goal.decreases-loop-rest
decreases-loop-rest l = length l.rest
