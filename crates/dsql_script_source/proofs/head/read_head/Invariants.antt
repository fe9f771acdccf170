use Rattle.std.proofs.Common.{◌≡◌, ◌-◌, ℕ, List, Option}
use Rattle.dsql_script_reader.specs.ScriptLines.{most_lines}
use Rattle.dsql_script_source.specs.Script.{nothing}
use Rattle.dsql_script_source.specs.Reading.{HasRead}
use Rattle.dsql_script_source.proofs.Heading.{HeadSoFar}
use Rattle.dsql_script_source.proofs.head.read_head.Given as goal

abbrev pub decreases-loop-line : goal.decreases-loop-line
decreases-loop-line g l = most_lines - l.script.reader.lines

abbrev pub invariant-loop-line : goal.invariant-loop-line
invariant-loop-line g l = record {
  head : (before : Option (List ℕ)) → HasRead before l.initial.script (g.S.Source.left l.initial.input) nothing
      → HeadSoFar before l.script (g.S.Source.left l.input) (g.F.Fleet.preferred l.initial.fleet) (g.F.Fleet.preferred l.fleet) (g.F.Fleet.ability l.initial.fleet) (g.F.Fleet.ability l.fleet);
  faultless : g.S.Source.faults l.input ≡ g.S.Source.faults l.initial.input;
  labels : l.script.reader.labels ≡ l.initial.script.reader.labels;
  unasked : g.F.Fleet.told l.fleet ≡ g.F.Fleet.told l.initial.fleet;
}
