use Rattle.std.proofs.Common.{◌≡◌, ◌++◌}
use Rattle.dsql_script_generator.specs.Script.{generated}
use Rattle.dsql_script_generator.proofs.pieces.spell.Given as goal

abbrev pub invariant-loop-line : goal.invariant-loop-line
invariant-loop-line l = generated l.line ≡ generated l.first ++ l.lines.items
