use Rattle.std.proofs.Common.{◌≡◌, ◌-◌, ℕ, true, List}
use Rattle.std.specs.Prelude.{sum_by}
use Rattle.std.specs.List.{list_all}
use Rattle.dsql_follows.specs.Labels.{times_in}
use Rattle.dsql_script_reader.specs.ScriptLines.{most_lines}
use Rattle.dsql_script_source.specs.Naming.{known}
use Rattle.dsql_script_source.specs.Racing.{may_race}
use Rattle.dsql_script_source.proofs.WholeScript.{WholeSoFar}
use Rattle.dsql_script_source.proofs.whole.read_lines.Given as goal

abbrev pub decreases-loop-script : goal.decreases-loop-script
decreases-loop-script g l = most_lines - l.script.reader.lines

abbrev pub invariant-loop-script : goal.invariant-loop-script
invariant-loop-script g l = record {
  so_far : WholeSoFar l.lines.items (g.S.Source.left l.initial.input) l.script (g.S.Source.left l.input) (g.F.Fleet.preferred l.initial.fleet) (g.F.Fleet.preferred l.fleet) (g.F.Fleet.ability l.initial.fleet) (g.F.Fleet.ability l.fleet);
  race : l.script.reader.race ≡ true;
  raced : list_all may_race l.lines.items ≡ true;
  counted : (label : List ℕ) → sum_by (times_in label) l.lines.items ≡ known label l.script.reader;
  faultless : g.S.Source.faults l.input ≡ g.S.Source.faults l.initial.input;
  untold : g.F.Fleet.told l.fleet ≡ g.F.Fleet.told l.initial.fleet;
}
