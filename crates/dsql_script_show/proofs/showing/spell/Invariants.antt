use Rattle.std.proofs.Common.{◌≡◌, take}
use Rattle.std.specs.Prelude.{reverse}
use Rattle.dsql_script_report.specs.Lines.{text_of}
use Rattle.dsql_script_show.proofs.showing.spell.Given as goal

abbrev pub invariant-loop-event : goal.invariant-loop-event
invariant-loop-event l = l.lines.items ≡ text_of (reverse (take l.event-index l.events))
