use Rattle.std.proofs.Common.{◌≡◌, take}
use Rattle.dsql_script_show.specs.Summary.{summary_of}
use Rattle.dsql_script_show.proofs.summary.summary_of.Given as goal

abbrev pub invariant-loop-event : goal.invariant-loop-event
invariant-loop-event l = l.it ≡ summary_of l.initial.lines (take l.event-index l.history)
